-- A word that is read digit by digit is the number that the definitions say, and a line that is cut at its spaces says what they say
use Prim.Native.Nat.{ℕ, ◌+◌, ◌*◌, ◌-◌, ◌^◌, ◌≤◌, ◌<◌}
use mathlib.Core.Path.{◌≡◌, refl, sym, ap, ◌∙◌}
use mathlib.Core.Bool.{Bool, true, false, cond, ◌&&◌, true≢false}
use mathlib.Core.List.{List, [], ◌∷◌, ◌++◌, append_assoc, append-nil}
use native.Mathlib.Omega.{arith}
use lib.ListN.{length, get_or, take, drop, set, length-take, replicate, drop_of_length-le, length-append}
use lib.Dec.{eqb, ltb}
use lib.Seq.{length-take-le, set_out}
use borrow.Author.Tests.{ltb-true, ltb-false, le-ltb, lt-ltb, le-leb, lt-leb}
use Rattle.std.specs.Prelude.{Option, Some, None}
use Rattle.std.specs.Fn.{CalledAt}
use Rattle.std.specs.Iterator.Adapters.{enumerate_source, enumerate_count, enumerate_steps}
use Rattle.std.specs.List.{slice_split, onto_first, enumerate_from}
use Rattle.std.specs.Slice.Iter.{split_rest, split_done, split_callee, split_steps}
use Rattle.std.proofs.lemmas.Iterator.{YieldsList}
use Rattle.std.proofs.lemmas.Iterator.Consumers.{YieldsList-at, YieldsList-from_enumerate}
use Rattle.std.proofs.lemmas.Iterator.Splits.{YieldsList-from_slice_split}
use Rattle.std.proofs.lemmas.List.FromFn.{length-enumerate_from, get_or-enumerate_from}
use denote.Param.Members.{Mut}
use denote.Ref.{Bor}
use Rattle.std.proofs.lemmas.List.{take_more}
use Rattle.std.proofs.lemmas.List.Splits.{length-slice_split}
use Rattle.rules.specs.Words.{each, every, fold}
use Rattle.rules.proofs.Lists.{every_append, every-at, each-length}
use Rattle.rules.proofs.Loops.{drop_more, each_append, filled_more}
use Rattle.text_numbers.specs.declared.Line.{Line}
use Rattle.text_numbers.specs.Lines.{space, is_digit, words_after, words, value, is_number, number_limit, line_limit, is_line, saying, line_of}
use Rattle.text_numbers.specs.Digits.{continued, number_of}

-- ---- a word

-- what the bytes of w make of the number n that those before them say
unfoldable pub read_on : ℕ → List ℕ → Option ℕ
read_on n [] = Some n
read_on n (c ∷ w) = elim (continued n c) [ None ↦ None | Some m ↦ read_on m w ]

module _ (w : List ℕ) (i n : ℕ) where
  pub more_read : i < length w → (m : ℕ) → continued n (get_or w i 0) ≡ Some m → read_on n (drop i w) ≡ read_on m (drop (i + 1) w)
  unfolding read_on
  more_read h m e = rw (drop_more 0 w i h) (ap (λ (o : Option ℕ). elim o [ None ↦ None | Some k ↦ read_on k (drop (i + 1) w) ]) e)

  pub none_read : i < length w → continued n (get_or w i 0) ≡ None → read_on n (drop i w) ≡ None
  unfolding read_on
  none_read h e = rw (drop_more 0 w i h) (ap (λ (o : Option ℕ). elim o [ None ↦ None | Some k ↦ read_on k (drop (i + 1) w) ]) e)

  pub all_read : length w ≤ i → read_on n (drop i w) ≡ Some n
  unfolding read_on
  all_read h = rw (drop_of_length-le w h) refl

-- what the digits of w make of n, and no digit makes it less
abbrev value_on : ℕ → List ℕ → ℕ
value_on n w = fold (λ n d. n * 10 + (d - 48)) n w

grows : (n : ℕ) (w : List ℕ) → n ≤ value_on n w
unfolding fold
grows n [] = omega arith
grows n (c ∷ w) = omega (arith, grows (n * 10 + (c - 48)) w)

read_is : (n : ℕ) (w : List ℕ) → n < 2 ^ 64 → read_on n w ≡ cond (every is_digit w && ltb (value_on n w) (2 ^ 64)) (Some (value_on n w)) None
unfolding read_on every fold
read_is n [] h = rw (lt-ltb n (2 ^ 64) h) refl
read_is n (c ∷ w) h = let m = n * 10 + (c - 48) in go m (is_digit c) (ltb m (2 ^ 64)) (every is_digit w) refl (read_is m w) (grows m w)
  where
    go : (m : ℕ) (a b e : Bool) → ltb m (2 ^ 64) ≡ b → (m < 2 ^ 64 → read_on m w ≡ cond (e && ltb (value_on m w) (2 ^ 64)) (Some (value_on m w)) None)
        → m ≤ value_on m w
        → elim (cond (a && b) (Some m) None) [ None ↦ None | Some k ↦ read_on k w ] ≡ cond ((a && e) && ltb (value_on m w) (2 ^ 64)) (Some (value_on m w)) None
    go m false b e k r g = refl
    go m true true e k r g = r (ltb-true m (2 ^ 64) k)
    go m true false false k r g = refl
    go m true false true k r g = let far = ltb-false m (2 ^ 64) k in rw (le-ltb (value_on m w) (2 ^ 64) (omega arith)) refl

pub word_read : (w : List ℕ) → 0 < length w → read_on 0 w ≡ number_of w
unfolding number_of is_number value
word_read w h = rw (lt-ltb 0 (length w) h) (read_is 0 w (omega arith))

pub no_word : (w : List ℕ) → length w ≡ 0 → None ≡ number_of w
unfolding number_of is_number
no_word w h = rw h refl

-- ---- a line, cut at its spaces

-- the first part begins with w
begun_with : List ℕ → List (List ℕ) → List (List ℕ)
begun_with w [] = w ∷ []
begun_with w (v ∷ vs) = (w ++ v) ∷ vs

words-after : (w l : List ℕ) → words_after w l ≡ begun_with w (slice_split (λ b. eqb b space) l)
unfolding words_after begun_with
words-after w [] = ap (λ (v : List ℕ). v ∷ []) (sym (append-nil w))
words-after w (c ∷ l) = go (eqb c space) (slice_split (λ b. eqb b space) l) (some_part l) (words-after [] l) (words-after (w ++ c ∷ []) l)
  where
    some_part : (l : List ℕ) → 0 < length (slice_split (λ b. eqb b space) l)
    some_part l = omega (arith, length-slice_split (λ b. eqb b space) l)

    go : (b : Bool) (vs : List (List ℕ)) → 0 < length vs → words_after [] l ≡ begun_with [] vs → words_after (w ++ c ∷ []) l ≡ begun_with (w ++ c ∷ []) vs
        → cond b (w ∷ words_after [] l) (words_after (w ++ c ∷ []) l) ≡ begun_with w (cond b ([] ∷ vs) (onto_first c vs))
    go b [] h e k = absurd (omega arith)
    go true (v ∷ vs) h e k = rw (e, append-nil w) refl
    go false (v ∷ vs) h e k = k ∙ ap (λ (u : List ℕ). u ∷ vs) (append_assoc w (c ∷ []) v)

pub words_split : (l : List ℕ) → slice_split (λ b. eqb b space) l ≡ words l
unfolding begun_with
words_split l = go (slice_split (λ b. eqb b space) l) (omega (arith, length-slice_split (λ b. eqb b space) l)) ∙ sym (words-after [] l)
  where
    go : (vs : List (List ℕ)) → 0 < length vs → vs ≡ begun_with [] vs
    go [] h = absurd (omega arith)
    go (v ∷ vs) h = refl

-- the words come one after another, each with its place
pub words_come : {F : Type 0} {s numbered cut : _} (g : Mut F (Bor ℕ × Unit {0}) Bool) {f : F} (l : List ℕ)
    → s ≡ numbered → enumerate_source numbered ≡ cut → enumerate_count numbered ≡ 0 → split_rest cut ≡ l → split_done cut ≡ false → split_callee cut ≡ f
    → ((x : ℕ) (b : Bool) (q : F) → CalledAt g f x b q → (q ≡ f) × (b ≡ eqb x space))
    → YieldsList (enumerate_steps (split_steps g)) (λ p. (p.0, p.1.now)) s (enumerate_from 0 (words l))
words_come g l same source count rest done callee tests =
    rw (← words_split l) (YieldsList-at same (YieldsList-from_enumerate (YieldsList-at source (YieldsList-from_slice_split g (λ b. eqb b space) l rest done callee tests)) count))

pub word_at : (ws : List (List ℕ)) (n i : ℕ) (w : List ℕ)
    → (n < length (enumerate_from 0 ws)) × ((i, w) ≡ get_or (enumerate_from 0 ws) n (i, w)) → (i ≡ n) × ((n < length ws) × (w ≡ get_or ws n w))
word_at ws n i w (h, e) =
    let k : n < length ws = rw length-enumerate_from at h in
    let p : (i, w) ≡ (n, get_or ws n w) = e ∙ get_or-enumerate_from 0 ws n (i, w) k ∙ ap (λ (m : ℕ). (m, get_or ws n w)) (omega arith) in
    (ap (λ (q : ℕ × List ℕ). q.0) p, (k, ap (λ (q : ℕ × List ℕ). q.1) p))

-- ---- the words one after another

-- one number more; past the last place it is counted only
saying-more : (ws : List (List ℕ)) (w : List ℕ) → record { count = length ws + 1; numbers = set (saying ws).numbers (length ws) (value w) } ≡ saying (ws ++ w ∷ [])
unfolding each
saying-more ws w =
    let n : length (ws ++ w ∷ []) ≡ length ws + 1 = length-append ws (w ∷ []) in
    rw (n, each_append value ws (w ∷ []), ← each-length value ws) (ap (λ (l : List ℕ). record { count = length (each value ws) + 1; numbers = l }) (filled_more 0 (value w) number_limit (each value ws)))

module _ (w : List ℕ) where
  number_some : (m : ℕ) → number_of w ≡ Some m → (is_number w ≡ true) × (value w ≡ m)
  unfolding number_of
  number_some m h = go (is_number w) h
    where
      go : (b : Bool) → cond b (Some (value w)) None ≡ Some m → (b ≡ true) × (value w ≡ m)
      go true e = (refl, cc)
      go false e = cc

  number_none : number_of w ≡ None → is_number w ≡ false
  unfolding number_of
  number_none h = go (is_number w) h
    where
      go : (b : Bool) → cond b (Some (value w)) None ≡ None → b ≡ false
      go true e = cc
      go false e = refl

-- word n of a line
module _ (ws : List (List ℕ)) (n : ℕ) (w : List ℕ) (is : (n < length ws) × (w ≡ get_or ws n w)) where
  next_take : take (n + 1) ws ≡ take n ws ++ w ∷ []
  next_take = take_more ws n w is.0 ∙ ap (λ (v : List ℕ). take n ws ++ v ∷ []) (sym is.1)

  next_said : (m : ℕ) → number_of w ≡ Some m → record { count = (saying (take n ws)).count + 1; numbers = set (saying (take n ws)).numbers n m } ≡ saying (take (n + 1) ws)
  next_said m e =
      let k : length (take n ws) ≡ n = length-take-le n ws (omega arith) in
      let v = (number_some w m e).1 in
      let s = saying-more (take n ws) w in
      let t = next_take in
      cc

  module _ (i m : ℕ) (at : i ≡ n) (e : number_of w ≡ Some m) (l k : Line) (said : l ≡ saying (take n ws)) where
    pub next_put : k ≡ record { count = l.count; numbers = set l.numbers i m } → record { count = k.count + 1; numbers = k.numbers } ≡ saying (take (n + 1) ws)
    next_put put = rw (put, said, at) (next_said m e)

    pub next_past : number_limit ≤ i → k ≡ l → record { count = k.count + 1; numbers = k.numbers } ≡ saying (take (n + 1) ws)
    next_past h same =
        let far : length l.numbers ≤ n = rw said (omega (arith, length-take number_limit (each value (take n ws) ++ replicate number_limit 0))) in
        next_put (same ∙ ap (λ (ns : List ℕ). record { count = l.count; numbers = ns }) (rw at (sym (set_out l.numbers n m far))))

  pub next_good : (m : ℕ) → number_of w ≡ Some m → every is_number (take n ws) ≡ true → every is_number (take (n + 1) ws) ≡ true
  unfolding every
  next_good m e h = rw (next_take, every_append is_number (take n ws) (w ∷ []), h, (number_some w m e).0) refl

-- ---- all the words of a line

module _ (l : List ℕ) where
  pub line_good : length l ≤ line_limit → every is_number (words l) ≡ true → Some (saying (words l)) ≡ line_of l
  unfolding line_of is_line
  line_good h k = rw (le-leb (length l) line_limit h, k) refl

  pub line_bad : length l ≤ line_limit → (n : ℕ) (w : List ℕ) → (n < length (words l)) × (w ≡ get_or (words l) n w) → number_of w ≡ None → None ≡ line_of l
  unfolding line_of is_line
  line_bad h n w is e = rw (le-leb (length l) line_limit h) (go (every is_number (words l)) refl)
    where
      go : (b : Bool) → every is_number (words l) ≡ b → None ≡ cond b (Some (saying (words l))) None
      go true k = absurd (true≢false (sym (every-at is_number (words l) n w k is.0) ∙ ap is_number (sym is.1) ∙ number_none w e))
      go false k = refl

  pub line_long : line_limit < length l → None ≡ line_of l
  unfolding line_of is_line
  line_long h = rw (lt-leb (length l) line_limit h) refl
