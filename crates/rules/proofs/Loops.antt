-- Loops: what a loop over an array cites, and how a word of the rules is a loop. Over any element
use Prim.Native.Nat.{ℕ, zero, suc, ◌+◌, ◌≤◌, ◌<◌, ◌*◌, ◌/◌, ◌%◌, min}
use mathlib.Core.Path.{◌≡◌, refl, sym, ap, ◌∙◌}
use mathlib.Core.Bool.{Bool, true, false, cond, ◌&&◌, true≢false}
use mathlib.Core.List.{List, [], ◌∷◌, ◌++◌, append_assoc}
use native.Mathlib.Nat.{mod-lt, div-lt_iff_lt-mul, suc-mul, div-add-mod'}
use native.Mathlib.Numerals.{add-one}
use native.Mathlib.Decide.{dec_le, ℕ_discrete}
use native.Mathlib.Omega.{arith}
use lib.ListN.{length, get_or, take, drop, drop_of_length-le, length-take, set, replicate, length-append, length-replicate, get_or-replicate, length-set}
use lib.Dec.{ltb, eqb}
use lib.Seq.{drop-cons, take-take, get_or-take, take-append-le, drop-append-le, set-append_left, take-set-lt, ext_get_or, take_all, get_or-set_same, get_or-set_other}
use lib.Arith.{digits_lt, digits_div, digits_mod}
use borrow.Author.Tests.{lt-ltb, eq-eqb, ne_eqb, le-ltb}
use Rattle.rules.specs.Words.{those, each, joined, every, some, place, fold, from, numbers, first, filled}
use Rattle.rules.proofs.Lists.{every-number, every-numbers, none_number, both, numbers-length, each-length, each_number, grid-at}

-- ---- a loop over l by its index i: l from i on is the element at i, and l from i + 1 on

pub drop_more : {A : Type 0} (d : A) (l : List A) (i : ℕ) → i < length l → drop i l ≡ get_or l i d ∷ drop (i + 1) l
drop_more d l i h = rw (add-one, drop-cons l i d h) refl

module _ {A : Type 0} (p : A → Bool) (d : A) (l : List A) (i : ℕ) where
  pub place_other : i < length l → p (get_or l i d) ≡ false → place p (drop i l) ≡ place p (drop (i + 1) l) + 1
  unfolding place
  place_other h e = rw (drop_more d l i h, e) (sym (add-one _))

  pub place_here : i < length l → p (get_or l i d) ≡ true → place p (drop i l) ≡ 0
  unfolding place
  place_here h e = rw (drop_more d l i h, e) refl

  pub place_end : length l ≤ i → place p (drop i l) ≡ 0
  unfolding place
  place_end h = rw (drop_of_length-le l h) refl

module _ {S A : Type 0} (f : S → A → S) (d : A) (l : List A) (i : ℕ) (s : S) where
  pub fold_more : i < length l → fold f s (drop i l) ≡ fold f (f s (get_or l i d)) (drop (i + 1) l)
  unfolding fold
  fold_more h = rw (drop_more d l i h) refl

  pub fold_end : length l ≤ i → fold f s (drop i l) ≡ s
  unfolding fold
  fold_end h = rw (drop_of_length-le l h) refl

-- ---- a word of the rules over a part of a list is a loop over the whole list

-- `those` in a fold: the others leave it as it is
pub fold-those : {S A : Type 0} (f : S → A → S) (p : A → Bool) (s : S) (l : List A) → fold f s (those p l) ≡ fold (λ m x. cond (p x) (f m x) m) s l
unfolding fold those
fold-those f p s [] = refl
fold-those f p s (x ∷ xs) = go (p x) (λ m. fold-those f p m xs)
  where
    go : (b : Bool) → ((m : _) → fold f m (those p xs) ≡ fold (λ m x. cond (p x) (f m x) m) m xs) → fold f s (cond b (x ∷ those p xs) (those p xs)) ≡ fold (λ m x. cond (p x) (f m x) m) (cond b (f s x) s) xs
    go true h = h (f s x)
    go false h = h s

pub fold-each : {S A B : Type 0} (f : S → B → S) (g : A → B) (s : S) (l : List A) → fold f s (each g l) ≡ fold (λ m x. f m (g x)) s l
unfolding fold each
fold-each f g s [] = refl
fold-each f g s (x ∷ xs) = fold-each f g (f s (g x)) xs

pub fold-append : {S A : Type 0} (f : S → A → S) (s : S) (k l : List A) → fold f s (k ++ l) ≡ fold f (fold f s k) l
unfolding fold
fold-append f s [] l = refl
fold-append f s (x ∷ k) l = fold-append f (f s x) k l

-- equal steps
pub fold_same : {S A : Type 0} (f g : S → A → S) → ((m : S) (x : A) → f m x ≡ g m x) → (s : S) (l : List A) → fold f s l ≡ fold g s l
unfolding fold
fold_same f g h s [] = refl
fold_same f g h s (x ∷ xs) = rw (h s x) (fold_same f g h (g s x) xs)

pub every-same : {A : Type 0} (p q : A → Bool) → ((x : A) → p x ≡ q x) → (l : List A) → every p l ≡ every q l
unfolding every
every-same p q h [] = refl
every-same p q h (x ∷ xs) = rw (h x, every-same p q h xs) refl

-- ---- a loop over the numbers below n that stops at the first that p refuses: its invariant is `every p (numbers i) ≡ true`;
-- at the first that p takes: `some p (numbers i) ≡ false`

module _ (p : ℕ → Bool) where
  pub every_begin : every p (numbers 0) ≡ true
  unfolding every from
  every_begin = refl

  pub every-next : (i : ℕ) → every p (numbers i) ≡ true → p i ≡ true → every p (numbers (i + 1)) ≡ true
  every-next i h k = every-numbers p (i + 1) (λ j l. go j l (dec_le i j))
    where
      go : (j : ℕ) → j < i + 1 → Dec (i ≤ j) → p j ≡ true
      go j l (yes q) = let e : j ≡ i = omega arith in rw e k
      go j l (no q) = every-number p i h j (omega arith)

  pub every_stop : (n i : ℕ) → i < n → p i ≡ false → every p (numbers n) ≡ false
  every_stop n i l h = go (every p (numbers n)) refl
    where
      go : (b : Bool) → every p (numbers n) ≡ b → b ≡ false
      go true e = absurd (true≢false (sym (every-number p n e i l) ∙ h))
      go false e = refl

  pub some_stop : (n i : ℕ) → i < n → p i ≡ true → some p (numbers n) ≡ true
  some_stop n i l h = go (some p (numbers n)) refl
    where
      go : (b : Bool) → some p (numbers n) ≡ b → b ≡ true
      go true e = refl
      go false e = absurd (true≢false (sym h ∙ none_number p n e i l))

-- ---- m rows of n, one behind the other, are looked at by one loop

same_truth : (a b : Bool) → (a ≡ true → b ≡ true) → (b ≡ true → a ≡ true) → a ≡ b
same_truth true b f g = sym (f refl)
same_truth false true f g = g refl
same_truth false false f g = refl

module _ (p : ℕ → ℕ → Bool) (m n : ℕ) (some_columns : 0 < n) where
  abbrev flat : Bool
  flat = every (λ i. p (i / n) (i % n)) (numbers (m * n))

  abbrev rows : Bool
  rows = every (λ r. every (p r) (numbers n)) (numbers m)

  flat_rows : flat ≡ true → rows ≡ true
  flat_rows h = every-numbers (λ r. every (p r) (numbers n)) m (λ r k. every-numbers (p r) n (λ c l.
      rw (digits_div r l, digits_mod r l) at (every-number (λ i. p (i / n) (i % n)) (m * n) h (r * n + c) (digits_lt k l))))

  rows-flat : rows ≡ true → flat ≡ true
  rows-flat h = every-numbers (λ i. p (i / n) (i % n)) (m * n) (λ i k.
      every-number (p (i / n)) n (every-number (λ r. every (p r) (numbers n)) m h (i / n) ((div-lt_iff_lt-mul some_columns).1 k)) (i % n) (mod-lt i some_columns))

  pub every-flat : flat ≡ rows
  every-flat = same_truth flat rows flat_rows rows-flat

-- ---- the first that is p, and those that are; a list rewritten element by element

pub first-those : {A : Type 0} (d : A) (p : A → Bool) (l : List A) → first d p l ≡ get_or (those p l) 0 d
unfolding place those
first-those d p [] = refl
first-those d p (x ∷ xs) = go (p x) (first-those d p xs)
  where
    go : (b : Bool) → first d p xs ≡ get_or (those p xs) 0 d → get_or (x ∷ xs) (cond b 0 (suc (place p xs))) d ≡ get_or (cond b (x ∷ those p xs) (those p xs)) 0 d
    go true h = refl
    go false h = h

pub those-both : {A : Type 0} (p q : A → Bool) (l : List A) → those (λ x. p x && q x) l ≡ those q (those p l)
unfolding those
those-both p q [] = refl
those-both p q (x ∷ xs) = go (p x) (those-both p q xs)
  where
    go : (b : Bool) → those (λ x. p x && q x) xs ≡ those q (those p xs) → cond (b && q x) (x ∷ those (λ x. p x && q x) xs) (those (λ x. p x && q x) xs) ≡ those q (cond b (x ∷ those p xs) (those p xs))
    go true h = ap (λ (t : List _). cond (q x) (x ∷ t) t) h
    go false h = h

pub those-every : {A : Type 0} (p : A → Bool) (l : List A) → every p l ≡ true → those p l ≡ l
unfolding those every
those-every p [] h = refl
those-every p (x ∷ xs) h = let r = both (p x) (every p xs) h in rw (r.0, those-every p xs r.1) refl

pub every-both : {A : Type 0} (p q : A → Bool) (l : List A) → (every p l && every q l) ≡ every (λ x. p x && q x) l
unfolding every
every-both p q [] = refl
every-both p q (x ∷ xs) = go (p x) (q x) (every p xs) (every-both p q xs)
  where
    go : (a b e : Bool) → (e && every q xs) ≡ every (λ x. p x && q x) xs → ((a && e) && (b && every q xs)) ≡ ((a && b) && every (λ x. p x && q x) xs)
    go true true e h = h
    go true false true h = refl
    go true false false h = refl
    go false b e h = refl

-- ---- an array that is rewritten in place from the front: the first i of `new`, then what `old` has from i on

abbrev pub mixed : {A : Type 0} → ℕ → List A → List A → List A
mixed i new old = take i new ++ drop i old

pub place-le : {A : Type 0} (p : A → Bool) (l : List A) → place p l ≤ length l
unfolding place
place-le p [] = omega arith
place-le p (x ∷ xs) = go (p x) (place-le p xs)
  where
    go : (b : Bool) → place p xs ≤ length xs → cond b 0 (suc (place p xs)) ≤ suc (length xs)
    go true h = omega arith
    go false h = omega arith

pub taken_at : {A : Type 0} (d : A) (n : ℕ) (l : List A) (i : ℕ) → i < length (take n l) → get_or (take n l) i d ≡ get_or l i d
taken_at d n l i h = get_or-take n l i d (omega (arith, length-take n l))

-- ---- e put in at p, and what stood there and after it one place on

abbrev pub opened : {A : Type 0} → ℕ → A → List A → List A
opened p e l = take p l ++ e ∷ drop p l

-- of the first n places, those after n tell nothing
opened_cut : {A : Type 0} (e : A) (p n : ℕ) (l : List A) → take n (opened p e (take n l)) ≡ take n (opened p e l)
opened_cut e zero zero l = refl
opened_cut e zero (suc n) l = ap (λ (t : List _). e ∷ t) (take-take n (suc n) l (omega arith))
opened_cut e (suc p) zero l = refl
opened_cut e (suc p) (suc n) [] = refl
opened_cut e (suc p) (suc n) (x ∷ xs) = ap (λ (t : List _). x ∷ t) (opened_cut e p n xs)

-- ---- an array with l in its first places and the others zero

module _ {A : Type 0} (d : A) (n : ℕ) (l : List A) where
  pub filled-length : length (filled n d l) ≡ n
  filled-length = simp (length-take, length-append, length-replicate) (omega arith)

  pub filled-set : (i : ℕ) (x : A) → i < length l → i < n → set (filled n d l) i x ≡ filled n d (set l i x)
  filled-set i x h k = sym (take-set-lt n (l ++ replicate n d) i x k) ∙ ap (take n) (set-append_left l (replicate n d) i x h)

  pub filled-opened : (e : A) (p : ℕ) → p ≤ length l → take n (opened p e (filled n d l)) ≡ filled n d (opened p e l)
  filled-opened e p h =
      opened_cut e p n (l ++ replicate n d)
      ∙ rw (take-append-le p l (replicate n d) h, drop-append-le p l (replicate n d) h) (ap (take n) (sym (append_assoc (take p l) (e ∷ drop p l) (replicate n d))))

-- ---- one place marked

-- one place marked among n; a place beyond them marks none
pub marked-only : (n c : ℕ) → set (replicate n false) c true ≡ each (eqb c) (numbers n)
marked-only n c =
    ext_get_or false (set (replicate n false) c true) (each (eqb c) (numbers n)) (simp (length-set, length-replicate, each-length, numbers-length)) (λ i h.
    let k : i < n = omega (arith, length-set (replicate n false) c true, length-replicate n false) in
    go i k (ℕ_discrete i c) ∙ sym (each_number (eqb c) n i false k))
  where
    go : (i : ℕ) → i < n → Dec (i ≡ c) → get_or (set (replicate n false) c true) i false ≡ eqb c i
    go i h (yes e) = rw (← e, eq-eqb i i refl) (get_or-set_same (replicate n false) i true false (omega (arith, length-replicate n false)))
    go i h (no e) = rw (ne_eqb c i (λ k. e (sym k))) (get_or-set_other (replicate n false) c i true false e ∙ get_or-replicate n i false false h)

-- ---- one element more at the end

pub each_append : {A B : Type 0} (f : A → B) (k l : List A) → each f (k ++ l) ≡ each f k ++ each f l
unfolding each
each_append f [] l = refl
each_append f (x ∷ k) l = ap (λ (t : List _). f x ∷ t) (each_append f k l)

module _ {A : Type 0} (d x : A) where
  replicate_cut : (n m : ℕ) → n ≤ m → take n (replicate m d) ≡ take n (replicate (suc m) d)
  replicate_cut zero m h = refl
  replicate_cut (suc n) zero h = absurd (omega arith)
  replicate_cut (suc n) (suc m) h = ap (λ (t : List A). d ∷ t) (replicate_cut n m (omega arith))

  set_past : (l : List A) (n m : ℕ) → n ≤ m → set (take n (l ++ replicate m d)) (length l) x ≡ take n ((l ++ x ∷ []) ++ replicate m d)
  set_past [] zero m h = refl
  set_past [] (suc n) zero h = absurd (omega arith)
  set_past [] (suc n) (suc m) h = ap (λ (t : List A). x ∷ t) (replicate_cut n m (omega arith))
  set_past (y ∷ l) zero m h = refl
  set_past (y ∷ l) (suc n) m h = ap (λ (t : List A). y ∷ t) (set_past l n m (omega arith))

  -- a store behind the last one; where there is no place any more, nothing changes
  pub filled_more : (n : ℕ) (l : List A) → set (filled n d l) (length l) x ≡ filled n d (l ++ x ∷ [])
  filled_more n l = set_past l n n (omega arith)

-- the first n of an array of m, where n may be more
pub take_min : {A : Type 0} (n m : ℕ) (l : List A) → length l ≡ m → take (min n m) l ≡ take n l
take_min n m l h = go (dec_le m n)
  where
    go : Dec (m ≤ n) → take (min n m) l ≡ take n l
    go (yes k) =
        let e : min n m ≡ m = omega arith in
        rw e (take_all m l (omega arith) ∙ sym (take_all n l (omega arith)))
    go (no k) =
        let e : min n m ≡ n = omega arith in
        rw e refl

-- ---- arrays made place by place, and rows one behind the other

-- an array is told by what it has in its places
pub each_of : {A : Type 0} (d : A) (f : ℕ → A) (n : ℕ) (l : List A) → length l ≡ n → ((i : ℕ) → i < n → get_or l i d ≡ f i) → l ≡ each f (numbers n)
each_of d f n l e h =
    ext_get_or d l (each f (numbers n)) (e ∙ sym (each-length f (numbers n) ∙ numbers-length n))
    (λ i k. let m : i < n = rw e at k in h i m ∙ sym (each_number f n i d m))

-- below i, and below i + 1: the same, but for i itself
pub below_next : (i j : ℕ) → (j ≡ i → ⊥) → ltb j i ≡ ltb j (i + 1)
below_next i j h = go (dec_le i j)
  where
    go : Dec (i ≤ j) → ltb j i ≡ ltb j (i + 1)
    go (yes k) = le-ltb j i k ∙ sym (le-ltb j (i + 1) (omega arith))
    go (no k) = lt-ltb j i (omega arith) ∙ sym (lt-ltb j (i + 1) (omega arith))

-- a loop that makes n places anew by f, from what g has there: its invariant is that the first i are made
module _ {A : Type 0} (f g : ℕ → A) (n : ℕ) where
  abbrev pub made : ℕ → List A
  made i = each (λ j. cond (ltb j i) (f j) (g j)) (numbers n)

  made-length : (i : ℕ) → length (made i) ≡ n
  made-length i = each-length (λ j. cond (ltb j i) (f j) (g j)) (numbers n) ∙ numbers-length n

  pub made_begin : (d : A) (l : List A) → length l ≡ n → ((i : ℕ) → i < n → get_or l i d ≡ g i) → l ≡ made 0
  made_begin d l e h = each_of d (λ j. cond (ltb j 0) (f j) (g j)) n l e (λ i k. h i k ∙ rw (le-ltb i 0 (omega arith)) refl)

  pub made-next : (i : ℕ) → i < n → set (made i) i (f i) ≡ made (i + 1)
  made-next i h =
      each_of (f i) (λ j. cond (ltb j (i + 1)) (f j) (g j)) n (set (made i) i (f i)) (length-set (made i) i (f i) ∙ made-length i) (λ j k. go j k (ℕ_discrete j i))
    where
      go : (j : ℕ) → j < n → Dec (j ≡ i) → get_or (set (made i) i (f i)) j (f i) ≡ cond (ltb j (i + 1)) (f j) (g j)
      go j k (yes e) = rw (e, lt-ltb i (i + 1) (omega arith)) (get_or-set_same (made i) i (f i) (f i) (rw (made-length i) h))
      go j k (no e) =
          get_or-set_other (made i) i j (f i) (f i) e ∙ each_number (λ j. cond (ltb j i) (f j) (g j)) n j (f i) k
          ∙ ap (λ (b : Bool). cond b (f j) (g j)) (below_next i j e)

  pub made-end : made n ≡ each f (numbers n)
  made-end = each_of (f 0) f n (made n) (made-length n) (λ i k. each_number (λ j. cond (ltb j n) (f j) (g j)) n i (f 0) k ∙ rw (lt-ltb i n k) refl)

-- .. from the same in every place
pub made-blank : {A : Type 0} (f : ℕ → A) (x : A) (n : ℕ) → replicate n x ≡ made f (λ _. x) n 0
made-blank f x n = made_begin f (λ _. x) n x (replicate n x) (length-replicate n x) (λ i h. get_or-replicate n i x x h)

-- m rows of n, one behind the other
rows-length : {A : Type 0} (f : ℕ → List A) (n : ℕ) → ((i : ℕ) → length (f i) ≡ n) → (i m : ℕ) → length (joined (each f (from i m))) ≡ m * n
unfolding joined each from
rows-length f n h i zero = omega arith
rows-length f n h i (suc m) =
    length-append (f i) (joined (each f (from (suc i) m))) ∙ (omega (arith, h i, rows-length f n h (suc i) m, suc-mul m n))

module _ {A : Type 0} (m n : ℕ) where
  abbrev grid : (ℕ → ℕ → A) → List A
  grid f = joined (each (λ c. each (f c) (numbers n)) (numbers m))

  pub grid-length : (f : ℕ → ℕ → A) → length (grid f) ≡ m * n
  grid-length f = rows-length (λ c. each (f c) (numbers n)) n (λ i. each-length (f i) (numbers n) ∙ numbers-length n) 0 m

  -- an array of rows is told by what it has in each row and column
  pub grid_of : (d : A) (f : ℕ → ℕ → A) (l : List A) → length l ≡ m * n → ((c b : ℕ) → c < m → b < n → get_or l (c * n + b) d ≡ f c b) → l ≡ grid f
  grid_of d f l e h = ext_get_or d l (grid f) (e ∙ sym (grid-length f)) (λ i k. at i (rw e at k) (columns n (rw e at k)))
    where
      columns : (n : ℕ) {i : ℕ} → i < m * n → 0 < n
      columns zero k = absurd (omega arith)
      columns (suc n) k = omega arith

      at : (i : ℕ) → i < m * n → 0 < n → get_or l i d ≡ get_or (grid f) i d
      at i k some_columns =
          let c = i / n in
          let b = i % n in
          let r : c < m = (div-lt_iff_lt-mul some_columns).1 k in
          let q : b < n = mod-lt i some_columns in
          let z : c * n + b ≡ i = div-add-mod' i n in
          rw (← z) (h c b r q ∙ sym (grid-at f m n c b d r q))

  pub grid-same : A → (f g : ℕ → ℕ → A) → ((c b : ℕ) → c < m → b < n → f c b ≡ g c b) → grid f ≡ grid g
  grid-same d f g h = grid_of d g (grid f) (grid-length f) (λ c b k q. grid-at f m n c b d k q ∙ h c b k q)
