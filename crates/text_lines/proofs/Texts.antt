-- A text that is gathered byte by byte; a number's digits
use Prim.Native.Nat.{ℕ, min, ◌-◌, ◌+◌, ◌^◌, ◌≤◌, ◌<◌}
use mathlib.Core.Path.{◌≡◌, refl, sym, ap, ◌∙◌}
use mathlib.Core.Bool.{Bool, true, false, cond}
use mathlib.Core.List.{List, [], ◌∷◌, ◌++◌, append_assoc, append-nil}
use native.Mathlib.Decide.{dec_le}
use native.Mathlib.Omega.{arith}
use lib.ListN.{length, get_or, take, drop, replicate, length-append, length-take, length-drop, drop_of_length-le}
use lib.Dec.{ltb}
use lib.Seq.{length-take-le, take_all, set_out}
use borrow.Author.Tests.{ltb-false, lt-ltb}
use Rattle.std.specs.Fmt as std
use Rattle.std.specs.List.{position_or_len}
use Rattle.std.specs.Prelude.{Option, Some, None}
use Rattle.std.proofs.Common.{rules}
use Rattle.std.proofs.lemmas.Fmt.{AppendsLastDigit, decimal_from_appends, length-decimal-le}
use Rattle.table_sets.proofs.Chains.{place-position}
use Rattle.rules.specs.Words.{each, fold, filled}
use Rattle.rules.proofs.Loops.{fold_more, fold_end, filled_more}
use Rattle.text_numbers.specs.Lines.{space, newline}
use Rattle.text_lines.specs.declared.Text.{Text}
use Rattle.text_lines.specs.declared.Cut.{Cut}
use Rattle.text_lines.specs.Texts.{digits_in, decimal, spaced, line_with, text_limit, text_of, followed, is_newline, cut_at}

-- ---- byte by byte

module _ (l : List ℕ) (i : ℕ) (t : Text) where
  pub gather_more : i < length l → (u : Text) → u ≡ followed t (get_or l i 0) → fold followed u (drop (i + 1) l) ≡ fold followed t (drop i l)
  gather_more h u e = rw e (sym (fold_more followed 0 l i t h))

  pub gather_end : length l ≤ i → fold followed t (drop i l) ≡ t
  gather_end = fold_end followed 0 l i t

-- ---- one byte more

module _ (k : List ℕ) (b : ℕ) where
  room-more : length k < text_limit → followed (text_of k) b ≡ text_of (k ++ b ∷ [])
  unfolding followed text_of
  room-more h =
      let m : length (k ++ b ∷ []) ≤ text_limit = rw (length-append k (b ∷ [])) (omega arith) in
      rw (take_all text_limit k (omega arith), take_all text_limit (k ++ b ∷ []) m, length-append k (b ∷ []), lt-ltb (length k) text_limit h)
      (ap (λ (l : List ℕ). record { bytes = l; count = length k + 1 }) (filled_more 0 b text_limit k))

  full-same : text_limit ≤ length k → followed (text_of k) b ≡ text_of (k ++ b ∷ [])
  unfolding followed text_of
  full-same h =
      let m : length (k ++ b ∷ []) ≡ length k + 1 = length-append k (b ∷ []) in
      let z : length (filled text_limit 0 k) ≤ length k = omega (arith, length-take text_limit (k ++ replicate text_limit 0)) in
      rw (length-take-le text_limit k h, length-take-le text_limit (k ++ b ∷ []) (omega arith))
      (ap (λ (l : List ℕ). record { bytes = l; count = text_limit }) (sym (set_out (filled text_limit 0 k) (length k) b z) ∙ filled_more 0 b text_limit k))

  followed_is : followed (text_of k) b ≡ text_of (k ++ b ∷ [])
  followed_is = go (dec_le text_limit (length k))
    where
      go : Dec (text_limit ≤ length k) → followed (text_of k) b ≡ text_of (k ++ b ∷ [])
      go (yes h) = full-same h
      go (no h) = room-more (omega arith)

-- a text goes on with l
pub text_more : (k l : List ℕ) → fold followed (text_of k) l ≡ text_of (k ++ l)
unfolding fold
text_more k [] = ap text_of (sym (append-nil k))
text_more k (b ∷ l) = rw (followed_is k b) (text_more (k ++ b ∷ []) l) ∙ ap text_of (append_assoc k (b ∷ []) l)

-- a text counts no more than it has room for
pub text_fits : (t : Text) (l : List ℕ) → t ≡ text_of l → t.count ≤ text_limit
unfolding text_of
text_fits t l e =
    let n = ap (λ (t : Text). t.count) e in
    omega (arith, n, length-take text_limit l)

-- ---- a block of input, up to the first newline

-- where `position` finds it
abbrev found : List ℕ → Option ℕ
found l = cond (ltb (position_or_len is_newline l) (length l)) (Some (position_or_len is_newline l)) None

pub rest_is : (block : List ℕ) (at from : ℕ) → from ≡ min at (length block) → take (length block - from) (drop from block) ≡ drop at block
rest_is block at from e = go (dec_le at (length block))
  where
    go : Dec (at ≤ length block) → take (length block - from) (drop from block) ≡ drop at block
    go (yes h) = let k : from ≡ at = omega arith in rw k (take_all (length block - at) (drop at block) (rw length-drop (omega arith)))
    go (no h) =
        let k : length block ≤ from = omega arith in
        let l : length block ≤ at = omega arith in
        rw (drop_of_length-le block k, drop_of_length-le block l, take_all {A = ℕ} (length block - from) [] (omega arith)) refl

module _ (block : List ℕ) (at : ℕ) (t u : Text) (rest : List ℕ) (is : rest ≡ drop at block) where
  pub cut_some : (n : ℕ) → Some n ≡ found rest → u ≡ fold followed t (take n rest) → ◌≡◌ {A = Cut} (record { text = u; next = Some (at + n + 1) }) (cut_at block at t)
  unfolding cut_at
  cut_some n e g = rw (← is, place-position is_newline rest) (go (ltb (position_or_len is_newline rest) (length rest)) e)
    where
      go : (b : Bool) → Some n ≡ cond b (Some (position_or_len is_newline rest)) None
          → ◌≡◌ {A = Cut} (record { text = u; next = Some (at + n + 1) }) (record { text = fold followed t (take (position_or_len is_newline rest) rest); next = cond b (Some (at + position_or_len is_newline rest + 1)) None })
      go true e = let same : n ≡ position_or_len is_newline rest = cc in rw (g, same) refl
      go false e = cc

  pub cut_none : None ≡ found rest → u ≡ fold followed t rest → ◌≡◌ {A = Cut} (record { text = u; next = None }) (cut_at block at t)
  unfolding cut_at
  cut_none e g = rw (← is, place-position is_newline rest) (go (ltb (position_or_len is_newline rest) (length rest)) refl e)
    where
      go : (b : Bool) → ltb (position_or_len is_newline rest) (length rest) ≡ b → None ≡ cond b (Some (position_or_len is_newline rest)) None
          → ◌≡◌ {A = Cut} (record { text = u; next = None }) (record { text = fold followed t (take (position_or_len is_newline rest) rest); next = cond b (Some (at + position_or_len is_newline rest + 1)) None })
      go true k e = cc
      go false k e = rw (take_all (position_or_len is_newline rest) rest (ltb-false (position_or_len is_newline rest) (length rest) k), g) refl

-- ---- digits, as the library writes them

digits_append : AppendsLastDigit digits_in
unfolding digits_in
digits_append = search rules

pub decimal_is : (n : ℕ) → n < 2 ^ 64 → std.decimal n ≡ decimal n
decimal_is n h = sym (decimal_from_appends digits_in digits_append 20 n h (length-decimal-le 20 n (omega arith) (omega arith) h))

-- ---- the line of five numbers

pub five_line : (a b c d e : ℕ) (t₁ t₂ t₃ t₄ t₅ : Text)
    → t₁ ≡ fold followed (text_of []) (decimal a ++ space ∷ [])
    → t₂ ≡ fold followed t₁ (decimal b ++ space ∷ [])
    → t₃ ≡ fold followed t₂ (decimal c ++ space ∷ [])
    → t₄ ≡ fold followed t₃ (decimal d ++ space ∷ [])
    → t₅ ≡ fold followed t₄ (decimal e ++ newline ∷ [])
    → t₅ ≡ text_of (line_with (a ∷ b ∷ c ∷ d ∷ e ∷ []))
unfolding spaced each
five_line a b c d e t₁ t₂ t₃ t₄ t₅ h₁ h₂ h₃ h₄ h₅ =
    rw (h₅, h₄, h₃, h₂, h₁) (simp (text_more, append_assoc))
