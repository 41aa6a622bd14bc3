-- What the definitions say together: nothing of a line is lost on its way, and what is written reads back
use Prim.Native.Nat.compare
use Prim.Native.Nat.{ℕ, zero, suc, ◌+◌, ◌*◌, ◌-◌, ◌/◌, ◌%◌, ◌^◌, ◌≤◌, ◌<◌}
use mathlib.Core.Path.{◌≡◌, refl, sym, ap, ◌∙◌}
use mathlib.Core.Bool.{Bool, true, false, cond, true≢false}
use mathlib.Core.List.{List, [], ◌∷◌, ◌++◌, append_assoc, append-nil}
use native.Mathlib.Nat.{pow-suc}
use native.Mathlib.Decide.{dec_le}
use native.Mathlib.Omega.{arith}
use lib.ListN.{length, take, drop, replicate, length-append, length-take, length-drop, take-append-drop}
use lib.Dec.{eqb, leb, ltb}
use lib.Seq.{take_all, take-take, length-take-le, take-append-le, take-append-add, take-append_seam, drop-append-le}
use borrow.Author.Tests.{ltb-true, ltb-false, leb-true, lt-ltb, le-ltb, le-leb, ne_eqb}
use Rattle.std.specs.Prelude.{Some, None}
use Rattle.std.specs.Option.{option_map}
use Rattle.rules.specs.declared.Outcome.{Outcome}
use Rattle.rules.specs.Codes.{numbers_of}
use Rattle.rules.specs.Words.{each, every, place, fold}
use Rattle.rules.proofs.Lists.{both, every_append}
use Rattle.rules.proofs.Loops.{fold-append}
use Rattle.text_numbers.specs.Lines.{space, is_digit, words_after, words, value, line_of}
use Rattle.text_numbers.proofs.Laws.{line_long}
use Rattle.text_lines.specs.declared.Text.{Text}
use Rattle.text_lines.specs.Texts.{digits_in, decimal, spaced, answer_line, text_limit, text_of, followed, bytes_of, is_newline, cut_at}
use Rattle.text_lines.proofs.Texts.{text_more}

-- ---- a line that is too long is known by its first 121 bytes

line_cut : (l : List ℕ) → line_of (take text_limit l) ≡ line_of l
line_cut l = go (dec_le (length l) text_limit)
  where
    go : Dec (length l ≤ text_limit) → line_of (take text_limit l) ≡ line_of l
    go (yes h) = ap line_of (take_all text_limit l h)
    go (no h) =
        let k : length (take text_limit l) ≡ text_limit = length-take-le text_limit l (omega arith) in
        sym (line_long (take text_limit l) (omega arith)) ∙ line_long l (omega arith)

text_bytes : (l : List ℕ) → bytes_of (text_of l) ≡ take text_limit l
unfolding text_of
text_bytes l =
    let m : length (take text_limit l) ≤ text_limit = omega (arith, length-take text_limit l) in
    let k : length (take text_limit l) ≤ length l = omega (arith, length-take text_limit l) in
    take-take (length (take text_limit l)) text_limit (l ++ replicate text_limit 0) m
    ∙ take-append-le (length (take text_limit l)) l (replicate text_limit 0) k
    ∙ ap (take (length (take text_limit l))) (sym (take-append-drop text_limit l))
    ∙ take-append_seam (take text_limit l) (drop text_limit l)

-- so a line that was gathered says what it said, however long it was
pub line_gathered : (l : List ℕ) → line_of (bytes_of (fold followed (text_of []) l)) ≡ line_of l
line_gathered l = ap (λ (t : Text). line_of (bytes_of t)) (text_more [] l) ∙ ap line_of (text_bytes l) ∙ line_cut l

-- and one that was cut out of a block says what stands before its newline
pub line_cut_out : (block : List ℕ) (at : ℕ)
    → line_of (bytes_of (cut_at block at (text_of [])).text) ≡ line_of (take (place is_newline (drop at block)) (drop at block))
unfolding cut_at
line_cut_out block at = line_gathered (take (place is_newline (drop at block)) (drop at block))

-- ---- where a block of input ends tells nothing

place-past : (k l : List ℕ) → ltb (place is_newline k) (length k) ≡ false → place is_newline (k ++ l) ≡ length k + place is_newline l
unfolding place
place-past [] l h = omega arith
place-past (b ∷ k) l h = go (is_newline b) h (place-past k l)
  where
    go : (x : Bool) → ltb (cond x 0 (suc (place is_newline k))) (suc (length k)) ≡ false
        → (ltb (place is_newline k) (length k) ≡ false → place is_newline (k ++ l) ≡ length k + place is_newline l)
        → cond x 0 (suc (place is_newline (k ++ l))) ≡ suc (length k) + place is_newline l
    go true h r = absurd (true≢false (sym (lt-ltb 0 (suc (length k)) (omega arith)) ∙ h))
    go false h r = omega (arith, r (rw compare.suc-suc at h))

ltb-past : (k m n : ℕ) → ltb m n ≡ ltb (k + m) (k + n)
ltb-past k m n = go (dec_le n m)
  where
    go : Dec (n ≤ m) → ltb m n ≡ ltb (k + m) (k + n)
    go (yes h) = le-ltb m n h ∙ sym (le-ltb (k + m) (k + n) (omega arith))
    go (no h) = lt-ltb m n (omega arith) ∙ sym (lt-ltb (k + m) (k + n) (omega arith))

-- a line that goes on in the next block is the line of both blocks put together, and its newline is the same one
pub cut_across : (k l : List ℕ) (at : ℕ) (t : Text) → at ≤ length k → (cut_at k at t).next ≡ None
    → ((cut_at l 0 (cut_at k at t).text).text ≡ (cut_at (k ++ l) at t).text)
    × (option_map (λ n. length k + n) (cut_at l 0 (cut_at k at t).text).next ≡ (cut_at (k ++ l) at t).next)
unfolding cut_at
cut_across k l at t inside more =
    let rest = drop at k in
    let n = place is_newline l in
    let past : ltb (place is_newline rest) (length rest) ≡ false = go (ltb (place is_newline rest) (length rest)) more in
    let all : take (place is_newline rest) rest ≡ rest = take_all (place is_newline rest) rest (ltb-false (place is_newline rest) (length rest) past) in
    rw (drop-append-le at k l inside, place-past rest l past, take-append-add rest l n, length-append rest l, all)
    (sym (fold-append followed t rest (take n l)), rw (← ltb-past (length rest) n (length l)) (next (ltb n (length l))))
  where
    go : (b : Bool) → cond b (Some (at + place is_newline (drop at k) + 1)) None ≡ None → b ≡ false
    go true e = cc
    go false e = refl

    next : (b : Bool) → option_map (λ n. length k + n) (cond b (Some (0 + place is_newline l + 1)) None) ≡ cond b (Some (at + (length (drop at k) + place is_newline l) + 1)) None
    next true = ap Some (omega (arith, length-drop at k))
    next false = refl

-- ---- an answer's line is never cut off

digits_few : (k n : ℕ) → length (digits_in k n) ≤ k
unfolding digits_in
digits_few zero n = omega arith
digits_few (suc k) n = go (ltb n 10) (digits_few k (n / 10))
  where
    go : (b : Bool) → length (digits_in k (n / 10)) ≤ k → length (cond b ((48 + n) ∷ []) (digits_in k (n / 10) ++ (48 + n % 10) ∷ [])) ≤ suc k
    go true h = omega arith
    go false h = rw length-append (omega arith)

answer-length : (code : ℕ) (o : Outcome) → length (answer_line code o) ≤ text_limit
unfolding answer_line spaced each
answer-length code o =
    let n = numbers_of o in
    simp length-append (omega (arith, digits_few 20 code, digits_few 20 n.kind, digits_few 20 n.host, digits_few 20 n.block, digits_few 20 n.value))

pub answer-whole : (code : ℕ) (o : Outcome) → bytes_of (text_of (answer_line code o)) ≡ answer_line code o
answer-whole code o = text_bytes (answer_line code o) ∙ take_all text_limit (answer_line code o) (answer-length code o)

-- ---- what is written reads back as the same numbers

value-more : (w : List ℕ) (c : ℕ) → value (w ++ c ∷ []) ≡ value w * 10 + (c - 48)
unfolding value fold
value-more w c = fold-append (λ n d. n * 10 + (d - 48)) 0 w (c ∷ [])

digits_value : (k n : ℕ) → n < 10 ^ suc k → value (digits_in (suc k) n) ≡ n
unfolding digits_in value fold
digits_value zero n h = rw (lt-ltb n 10 h) (omega arith)
digits_value (suc k) n h = go (ltb n 10) (digits_value k (n / 10) (omega (arith, pow-suc 10 (suc k))))
  where
    go : (b : Bool) → value (digits_in (suc k) (n / 10)) ≡ n / 10 → value (cond b ((48 + n) ∷ []) (digits_in (suc k) (n / 10) ++ (48 + n % 10) ∷ [])) ≡ n
    go true r = omega arith
    go false r = value-more (digits_in (suc k) (n / 10)) (48 + n % 10) ∙ rw r (omega arith)

digit_is : (d : ℕ) → d < 10 → is_digit (48 + d) ≡ true
digit_is d h = rw (le-leb 48 (48 + d) (omega arith), le-leb (48 + d) 57 (omega arith)) refl

digits_are : (k n : ℕ) → every is_digit (digits_in k n) ≡ true
unfolding digits_in every
digits_are zero n = refl
digits_are (suc k) n = go (ltb n 10) refl (digits_are k (n / 10))
  where
    go : (b : Bool) → ltb n 10 ≡ b → every is_digit (digits_in k (n / 10)) ≡ true → every is_digit (cond b ((48 + n) ∷ []) (digits_in k (n / 10) ++ (48 + n % 10) ∷ [])) ≡ true
    go true e r = rw (digit_is n (ltb-true n 10 e)) refl
    go false e r = rw (every_append is_digit (digits_in k (n / 10)) ((48 + n % 10) ∷ []), r, digit_is (n % 10) (omega arith)) refl

-- digits stay in their word
words-after : (w v l : List ℕ) → every is_digit w ≡ true → words_after v (w ++ l) ≡ words_after (v ++ w) l
unfolding every words_after
words-after [] v l h = ap (λ (u : List ℕ). words_after u l) (sym (append-nil v))
words-after (c ∷ w) v l h =
    let d = both (is_digit c) (every is_digit w) h in
    let low : 48 ≤ c = leb-true 48 c (both (leb 48 c) (leb c 57) d.0).0 in
    let other : eqb c space ≡ false = ne_eqb c space (λ e. omega arith) in
    rw other (words-after w (v ++ c ∷ []) l d.1 ∙ ap (λ (u : List ℕ). words_after u l) (append_assoc v (c ∷ []) w))

pub reads-back : (n : ℕ) (ns : List ℕ) → every (λ m. ltb m (2 ^ 64)) (n ∷ ns) ≡ true → each value (words (spaced (each decimal (n ∷ ns)))) ≡ n ∷ ns
unfolding every each spaced words_after
reads-back n [] h =
    let k : n < 2 ^ 64 = ltb-true n (2 ^ 64) (both (ltb n (2 ^ 64)) true h).0 in
    ap (λ (l : List ℕ). each value (words l)) (sym (append-nil (decimal n))) ∙ ap (each value) (words-after (decimal n) [] [] (digits_are 20 n))
    ∙ ap (λ (m : ℕ). m ∷ []) (digits_value 19 n (omega arith))
reads-back n (m ∷ ns) h =
    let b = both (ltb n (2 ^ 64)) (every (λ m. ltb m (2 ^ 64)) (m ∷ ns)) h in
    let k : n < 2 ^ 64 = ltb-true n (2 ^ 64) b.0 in
    ap (each value) (words-after (decimal n) [] (space ∷ spaced (each decimal (m ∷ ns))) (digits_are 20 n))
    ∙ rw (digits_value 19 n (omega arith)) (ap (λ (l : List ℕ). n ∷ l) (reads-back m ns b.1))
