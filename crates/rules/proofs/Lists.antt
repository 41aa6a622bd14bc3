-- Laws about the words of the rules, over any element
use Prim.Native.Nat.{ℕ, zero, suc, ◌+◌, ◌-◌, ◌*◌, ◌≤◌, ◌<◌}
use mathlib.Core.Path.{◌≡◌, refl, sym, ap, ◌∙◌}
use mathlib.Core.Logic.{◌⊎◌, inl, inr}
use mathlib.Core.Bool.{Bool, true, false, cond, not, ◌&&◌, ◌||◌, false≢true}
use mathlib.Core.List.{List, [], ◌∷◌, ◌++◌}
use native.Mathlib.Nat.{suc-mul}
use native.Mathlib.Decide.{dec_le}
use native.Mathlib.Omega.{arith}
use lib.ListN.{length, get_or, set, take, drop, replicate, length-take, get_or-eq_default, get_or-append, get_or-replicate}
use lib.Dec.{eqb, ltb}
use lib.Seq.{get_or-append-add, get_or-take, take-take, take-append_seam}
use borrow.Author.Tests.{ltb-true, ltb-false, lt-ltb, eqb-true, ne_eqb}
use Rattle.rules.specs.Words.{Numbered, under, place, those, each, joined, every, some, fold, from, numbers, filled}

-- ---- tests

pub both : (a b : Bool) → a && b ≡ true → (a ≡ true) × (b ≡ true)
both true b h = (refl, h)
both false b h = absurd (false≢true h)

pub and_true : (a b : Bool) → a ≡ true → b ≡ true → a && b ≡ true
and_true a b h k = rw (h, k) refl

pub true_or_false : (b : Bool) → (b ≡ true) ⊎ (b ≡ false)
true_or_false true = inl refl
true_or_false false = inr refl

-- either or, where the first is not
pub or_right : (a b : Bool) → a || b ≡ true → a ≡ false → b ≡ true
or_right a b h k = rw k at h

-- a test, walked
pub walk : {A : Type 0} (P : A → Type 0) (b : Bool) (x y : A) → (b ≡ true → P x) → (b ≡ false → P y) → P (cond b x y)
walk P true x y f g = f refl
walk P false x y f g = g refl

-- the one with the greater key, the first of equals
module _ {A : Type 0} (key : A → ℕ) where
  abbrev pub upper : A → A → A
  upper x y = cond (ltb (key x) (key y)) y x

  pub upper-left : (x y : A) → key x ≤ key (upper x y)
  upper-left x y = walk (λ (z : A). key x ≤ key z) (ltb (key x) (key y)) y x (λ e. let z = ltb-true (key x) (key y) e in omega arith) (λ _. omega arith)

  pub upper_right : (x y : A) → key y ≤ key (upper x y)
  upper_right x y = walk (λ (z : A). key y ≤ key z) (ltb (key x) (key y)) y x (λ _. omega arith) (ltb-false (key x) (key y))

  pub upper-one : (x y : A) → (upper x y ≡ x) ⊎ (upper x y ≡ y)
  upper-one x y = walk (λ (z : A). (z ≡ x) ⊎ (z ≡ y)) (ltb (key x) (key y)) y x (λ _. inr refl) (λ _. inl refl)

-- ---- every, some: what they say of each element

module _ {A : Type 0} (p : A → Bool) where
  pub every-at : (l : List A) (i : ℕ) (d : A) → every p l ≡ true → i < length l → p (get_or l i d) ≡ true
  unfolding every
  every-at [] i d h k = absurd (omega arith)
  every-at (x ∷ xs) zero d h k = (both (p x) (every p xs) h).0
  every-at (x ∷ xs) (suc i) d h k = every-at xs i d (both (p x) (every p xs) h).1 (omega arith)

  pub every_of : (l : List A) (d : A) → ((i : ℕ) → i < length l → p (get_or l i d) ≡ true) → every p l ≡ true
  unfolding every
  every_of [] d h = refl
  every_of (x ∷ xs) d h = rw (h 0 (omega arith), every_of xs d (λ i k. h (suc i) (omega arith))) refl

  pub every_so : (q : A → Bool) → ((x : A) → q x ≡ true → p x ≡ true) → (l : List A) → every q l ≡ true → every p l ≡ true
  unfolding every
  every_so q f [] h = refl
  every_so q f (x ∷ xs) h = let b = both (q x) (every q xs) h in and_true (p x) (every p xs) (f x b.0) (every_so q f xs b.1)

  pub none-every : (l : List A) → not (some p l) ≡ every (λ x. not (p x)) l
  unfolding some every
  none-every [] = refl
  none-every (x ∷ xs) = go (p x) (none-every xs)
    where
      go : (b : Bool) → not (some p xs) ≡ every (λ x. not (p x)) xs → not (b || some p xs) ≡ (not b && every (λ x. not (p x)) xs)
      go true h = refl
      go false h = h

  pub some_at : (l : List A) (d : A) → some p l ≡ true → (i : ℕ) × (i < length l) × (p (get_or l i d) ≡ true)
  unfolding some
  some_at [] d h = absurd (false≢true h)
  some_at (x ∷ xs) d h = go (p x) refl h (some_at xs d)
    where
      go : (b : Bool) → p x ≡ b → b || some p xs ≡ true → (some p xs ≡ true → (i : ℕ) × (i < length xs) × (p (get_or xs i d) ≡ true)) → (i : ℕ) × (i < suc (length xs)) × (p (get_or (x ∷ xs) i d) ≡ true)
      go true e h f = (0, omega arith, e)
      go false e h f = let r = f h in let k = r.1 in (suc r.0, omega arith, r.2)

-- ---- a table by numbers

-- P of each of the list, one after the other
infixr 5 ◌&◌
pub data All {A : Type 0} (P : A → Type 0) : List A → Type 0 where
  end : All P []
  ◌&◌ : {x : A} {xs : List A} → P x → All P xs → All P (x ∷ xs)

-- n is no number of the table, where the entries before it are told by X: so a `match` on n that names them all ends
abbrev pub Others : {A : Type 0} → Type 0 → (n : ℕ) → List (Numbered A) → Type 0
Others X n [] = X
Others X n (x ∷ xs) = Others (X × (n ≡ x.number → ⊥)) n xs

module _ {A : Type 0} (d : A) (n : ℕ) where
  -- what holds of each entry under its number, and where there is none, holds of what stands under n
  pub under-number : (P : A → Type 0) (l : List (Numbered A)) → All (λ (x : Numbered A). n ≡ x.number → P x.entry) l → P d → P (under d l n)
  unfolding place
  under-number P [] end p = p
  under-number P (x ∷ xs) (h & a) p = go (eqb x.number n) refl (under-number P xs a p)
    where
      go : (b : Bool) → eqb x.number n ≡ b → P (under d xs n)
          → P (get_or (x ∷ xs) (cond b 0 (suc (place (λ (y : Numbered A). eqb y.number n) xs))) (record { number = n; entry = d })).entry
      go true e _ = h (sym (eqb-true x.number n e))
      go false e other = other

  pub under-every : (p : A → Bool) (l : List (Numbered A)) → every (λ (x : Numbered A). p x.entry) l ≡ true → p d ≡ true → p (under d l n) ≡ true
  unfolding every place
  under-every p [] h k = k
  under-every p (x ∷ xs) h k =
      let b = both (p x.entry) (every (λ (x : Numbered A). p x.entry) xs) h in
      go (eqb x.number n) b.0 (under-every p xs b.1 k)
    where
      go : (b : Bool) → p x.entry ≡ true → p (under d xs n) ≡ true
          → p (get_or (x ∷ xs) (cond b 0 (suc (place (λ (y : Numbered A). eqb y.number n) xs))) (record { number = n; entry = d })).entry ≡ true
      go true here other = here
      go false here other = other

  others-first : (X : Type 0) (l : List (Numbered A)) → Others X n l → X
  others-first X [] o = o
  others-first X (x ∷ xs) o = (others-first (X × (n ≡ x.number → ⊥)) xs o).0

  -- nothing stands under another number
  pub under-other : (X : Type 0) (l : List (Numbered A)) → Others X n l → under d l n ≡ d
  unfolding place
  under-other X [] o = refl
  under-other X (x ∷ xs) o =
      let here : n ≡ x.number → ⊥ = (others-first (X × (n ≡ x.number → ⊥)) xs o).1 in
      rw (ne_eqb x.number n (λ e. here (sym e)), under, place) (under-other (X × (n ≡ x.number → ⊥)) xs o)

-- ---- the numbers below n

from-length : (i n : ℕ) → length (from i n) ≡ n
unfolding from
from-length i zero = refl
from-length i (suc n) = ap suc (from-length (suc i) n)

from_at : (i n j d : ℕ) → j < n → get_or (from i n) j d ≡ i + j
unfolding from
from_at i zero j d h = absurd (omega arith)
from_at i (suc n) zero d h = omega arith
from_at i (suc n) (suc j) d h = from_at (suc i) n j d (omega arith) ∙ (omega arith)

pub numbers-length : (n : ℕ) → length (numbers n) ≡ n
numbers-length n = from-length 0 n

pub numbers-at : (n i d : ℕ) → i < n → get_or (numbers n) i d ≡ i
numbers-at n i d h = from_at 0 n i d h ∙ omega arith

module _ (p : ℕ → Bool) (n : ℕ) where
  pub every-number : every p (numbers n) ≡ true → (i : ℕ) → i < n → p i ≡ true
  every-number h i k = rw (numbers-at n i 0 k) at (every-at p (numbers n) i 0 h (rw numbers-length k))

  pub every-numbers : ((i : ℕ) → i < n → p i ≡ true) → every p (numbers n) ≡ true
  every-numbers h =
      every_of p (numbers n) 0 (λ i k. let l : i < n = rw (numbers-length n) at k in rw (numbers-at n i 0 l) (h i l))

  pub none_number : some p (numbers n) ≡ false → (i : ℕ) → i < n → p i ≡ false
  none_number h i k = go (p i) refl
    where
      go : (b : Bool) → p i ≡ b → b ≡ false
      go false e = refl
      go true e =
          let z : not (p i) ≡ true = rw (numbers-at n i 0 k) at (every-at (λ i. not (p i)) (numbers n) i 0 (sym (none-every p (numbers n)) ∙ ap not h) (rw numbers-length k)) in
          absurd (false≢true (rw e at z))

  pub some_number : some p (numbers n) ≡ true → (i : ℕ) × (i < n) × (p i ≡ true)
  some_number h =
      let r = some_at p (numbers n) 0 h in
      let l : r.0 < n = rw (numbers-length n) at r.1 in
      (r.0, l, rw (numbers-at n r.0 0 l) at r.2)

-- ---- each

pub each-length : {A B : Type 0} (f : A → B) (l : List A) → length (each f l) ≡ length l
unfolding each
each-length f [] = refl
each-length f (x ∷ xs) = ap suc (each-length f xs)

each_at : {A B : Type 0} (f : A → B) (l : List A) (i : ℕ) (a : A) (b : B) → i < length l → get_or (each f l) i b ≡ f (get_or l i a)
unfolding each
each_at f [] i a b h = absurd (omega arith)
each_at f (x ∷ xs) zero a b h = refl
each_at f (x ∷ xs) (suc i) a b h = each_at f xs i a b (omega arith)

pub each_number : {B : Type 0} (f : ℕ → B) (n i : ℕ) (b : B) → i < n → get_or (each f (numbers n)) i b ≡ f i
each_number f n i b h = each_at f (numbers n) i 0 b (rw numbers-length h) ∙ ap f (numbers-at n i 0 h)

-- ---- a store of one element

-- it is there, or everything is as it was
pub get_set : {A : Type 0} (l : List A) (j i : ℕ) (x d : A) → ((i ≡ j) × (get_or (set l j x) i d ≡ x)) ⊎ (get_or (set l j x) i d ≡ get_or l i d)
get_set [] j i x d = inr refl
get_set (y ∷ ys) zero zero x d = inl (refl, refl)
get_set (y ∷ ys) zero (suc i) x d = inr refl
get_set (y ∷ ys) (suc j) zero x d = inr refl
get_set (y ∷ ys) (suc j) (suc i) x d = go (get_set ys j i x d)
  where
    go : ((i ≡ j) × (get_or (set ys j x) i d ≡ x)) ⊎ (get_or (set ys j x) i d ≡ get_or ys i d) → ((suc i ≡ suc j) × (get_or (set ys j x) i d ≡ x)) ⊎ (get_or (set ys j x) i d ≡ get_or ys i d)
    go (inl h) = inl (ap suc h.0, h.1)
    go (inr h) = inr h

-- what P says of each place it still says after a store of what has it
pub set_all : {A : Type 0} (P : ℕ → A → Type 0) (d : A) (l : List A) (j : ℕ) (x : A) → P j x → ((i : ℕ) → P i (get_or l i d)) → (i : ℕ) → P i (get_or (set l j x) i d)
set_all P d l j x h k i = go (get_set l j i x d)
  where
    go : ((i ≡ j) × (get_or (set l j x) i d ≡ x)) ⊎ (get_or (set l j x) i d ≡ get_or l i d) → P i (get_or (set l j x) i d)
    go (inl e) = rw e.1 (rw e.0 h)
    go (inr e) = rw e (k i)

-- ---- an array filled from the front

module _ {A : Type 0} (d : A) (n : ℕ) (l : List A) where
  pub filled_at : (i : ℕ) → i < n → get_or (filled n d l) i d ≡ get_or l i d
  filled_at i h = get_or-take n (l ++ replicate n d) i d h ∙ go (dec_le (length l) i)
    where
      go : Dec (length l ≤ i) → get_or (l ++ replicate n d) i d ≡ get_or l i d
      go (yes k) =
          let e : i ≡ length l + (i - length l) = omega arith in
          rw e (get_or-append-add l (replicate n d) (i - length l) d ∙ get_or-replicate n (i - length l) d d (omega arith)) ∙ sym (get_or-eq_default l d k)
      go (no k) = get_or-append l (replicate n d) d i (omega arith)

module _ {A : Type 0} (d : A) (n : ℕ) (l : List A) (room : length l ≤ n) where
  pub filled_any : (i : ℕ) → get_or (filled n d l) i d ≡ get_or l i d
  filled_any i = go (dec_le n i)
    where
      go : Dec (n ≤ i) → get_or (filled n d l) i d ≡ get_or l i d
      go (yes k) =
          get_or-eq_default (filled n d l) d (omega (arith, length-take n (l ++ replicate n d))) ∙ sym (get_or-eq_default l d (omega arith))
      go (no k) = filled_at d n l i (omega arith)

  pub filled-past : (i : ℕ) → length l ≤ i → get_or (filled n d l) i d ≡ d
  filled-past i h = filled_any i ∙ get_or-eq_default l d h

  pub filled-take : take (length l) (filled n d l) ≡ l
  filled-take = take-take (length l) n (l ++ replicate n d) room ∙ take-append_seam l (replicate n d)

-- ---- tests in a row

pub three : (a b c : Bool) → a && b && c ≡ true → (a ≡ true) × (b ≡ true) × (c ≡ true)
three a b c h = let r = both (a && b) c h in let s = both a b r.0 in (s.0, s.1, r.1)

pub four : (a b c d : Bool) → a && b && c && d ≡ true → (a ≡ true) × (b ≡ true) × (c ≡ true) × (d ≡ true)
four a b c d h = let r = both (a && b && c) d h in let s = three a b c r.0 in (s.0, s.1, s.2, r.1)

pub five : (a b c d e : Bool) → a && b && c && d && e ≡ true → (a ≡ true) × (b ≡ true) × (c ≡ true) × (d ≡ true) × (e ≡ true)
five a b c d e h = let r = both (a && b && c && d) e h in let s = four a b c d r.0 in (s.0, s.1, s.2, s.3, r.1)

-- a is not, or b is: where a is, b is
pub implied : (a b : Bool) → not a || b ≡ true → a ≡ true → b ≡ true
implied a b h e = or_right (not a) b h (ap not e)

pub implies : (a b : Bool) → (a ≡ true → b ≡ true) → not a || b ≡ true
implies true b h = h refl
implies false b h = refl

-- ---- every, through the words that make lists

pub those_short : {A : Type 0} (p : A → Bool) (l : List A) → length (those p l) ≤ length l
unfolding those
those_short p [] = omega arith
those_short p (x ∷ xs) = go (p x) (those_short p xs)
  where
    go : (b : Bool) → length (those p xs) ≤ length xs → length (cond b (x ∷ those p xs) (those p xs)) ≤ suc (length xs)
    go true h = omega arith
    go false h = omega arith

pub take_short : {A : Type 0} (n : ℕ) (l : List A) → length (take n l) ≤ n
take_short n l = omega (arith, length-take n l)

module _ {A : Type 0} (p : A → Bool) where
  pub every_one : (x : A) → p x ≡ true → every p (x ∷ []) ≡ true
  unfolding every
  every_one x h = and_true (p x) true h refl

  pub every_append : (k l : List A) → every p (k ++ l) ≡ (every p k && every p l)
  unfolding every
  every_append [] l = refl
  every_append (x ∷ k) l = go (p x) (every_append k l)
    where
      go : (b : Bool) → every p (k ++ l) ≡ (every p k && every p l) → (b && every p (k ++ l)) ≡ ((b && every p k) && every p l)
      go true h = h
      go false h = refl

  pub every_drop : (n : ℕ) (l : List A) → every p l ≡ true → every p (drop n l) ≡ true
  unfolding every
  every_drop zero l h = h
  every_drop (suc n) [] h = h
  every_drop (suc n) (x ∷ xs) h = every_drop n xs (both (p x) (every p xs) h).1

  pub every_take : (n : ℕ) (l : List A) (d : A) → ((i : ℕ) → i < n → p (get_or l i d) ≡ true) → every p (take n l) ≡ true
  every_take n l d h = every_of p (take n l) d (λ i k. let m : i < n = omega (arith, take_short n l) in rw (get_or-take n l i d m) (h i m))

  -- one element changed by what keeps p
  pub every-change : (f : A → A) → ((x : A) → p x ≡ true → p (f x) ≡ true) → (l : List A) (i : ℕ) (d : A)
      → every p l ≡ true → every p (set l i (f (get_or l i d))) ≡ true
  unfolding every
  every-change f k [] i d h = h
  every-change f k (x ∷ xs) zero d h = let b = both (p x) (every p xs) h in and_true (p (f x)) (every p xs) (k x b.0) b.1
  every-change f k (x ∷ xs) (suc i) d h =
      let b = both (p x) (every p xs) h in
      and_true (p x) (every p (set xs i (f (get_or xs i d)))) b.0 (every-change f k xs i d b.1)

  pub every-joined : (ls : List (List A)) → every (every p) ls ≡ true → every p (joined ls) ≡ true
  unfolding every joined
  every-joined [] h = refl
  every-joined (l ∷ ls) h = let b = both (every p l) (every (every p) ls) h in every_append l (joined ls) ∙ and_true (every p l) (every p (joined ls)) b.0 (every-joined ls b.1)

  -- those that are q are p exactly when each that is q is p
  pub every-those : (q : A → Bool) (l : List A) → every p (those q l) ≡ every (λ x. not (q x) || p x) l
  unfolding every those
  every-those q [] = refl
  every-those q (x ∷ xs) = go (q x) (every-those q xs)
    where
      go : (b : Bool) → every p (those q xs) ≡ every (λ x. not (q x) || p x) xs → every p (cond b (x ∷ those q xs) (those q xs)) ≡ ((not b || p x) && every (λ x. not (q x) || p x) xs)
      go true h = ap (λ (t : Bool). p x && t) h
      go false h = h

  -- those that are q, where each is p
  pub every_of_all : (q : A → Bool) (l : List A) → every p l ≡ true → every p (those q l) ≡ true
  unfolding every those
  every_of_all q [] h = refl
  every_of_all q (x ∷ xs) h =
      let b = both (p x) (every p xs) h in
      walk (λ (l : List A). every p l ≡ true) (q x) (x ∷ those q xs) (those q xs)
      (λ _. and_true (p x) (every p (those q xs)) b.0 (every_of_all q xs b.1))
      (λ _. every_of_all q xs b.1)

  pub every-each : {B : Type 0} (q : B → Bool) (f : B → A) (l : List B)
      → ((x : B) → q x ≡ true → p (f x) ≡ true) → every q l ≡ true → every p (each f l) ≡ true
  unfolding every each
  every-each q f [] g h = refl
  every-each q f (x ∷ xs) g h =
      let b = both (q x) (every q xs) h in
      and_true (p (f x)) (every p (each f xs)) (g x b.0) (every-each q f xs g b.1)

  pub every-each-number : (f : ℕ → A) (n : ℕ) → ((i : ℕ) → i < n → p (f i) ≡ true) → every p (each f (numbers n)) ≡ true
  every-each-number f n h =
      every-each (λ i. ltb i n) f (numbers n) (λ i e. h i (ltb-true i n e)) (every-numbers (λ i. ltb i n) n (λ i l. lt-ltb i n l))

  -- what each step with a p keeps, a fold over p's keeps
  pub fold-keeps : {S : Type 0} (P : S → Type 0) (f : S → A → S) → ((s : S) (x : A) → P s → p x ≡ true → P (f s x))
      → (s : S) (l : List A) → P s → every p l ≡ true → P (fold f s l)
  unfolding every fold
  fold-keeps P f g s [] k h = k
  fold-keeps P f g s (x ∷ xs) k h = let b = both (p x) (every p xs) h in fold-keeps P f g (f s x) xs (g s x k b.0) b.1

-- ---- an array of n places of which some are used: a used one is p, an unused one is z

module _ (p z : ℕ → Bool) (n used : ℕ) where
  pub used-at : every (λ i. cond (ltb i used) (p i) (z i)) (numbers n) ≡ true → used ≤ n → (i : ℕ) → i < used → p i ≡ true
  used-at h m i l = rw (lt-ltb i used l) at (every-number (λ i. cond (ltb i used) (p i) (z i)) n h i (omega arith))

  pub used_of : ((i : ℕ) → i < used → p i ≡ true) → ((i : ℕ) → i < n → used ≤ i → z i ≡ true)
      → every (λ i. cond (ltb i used) (p i) (z i)) (numbers n) ≡ true
  used_of f g =
      every-numbers (λ i. cond (ltb i used) (p i) (z i)) n (λ i l.
      walk (λ (b : Bool). b ≡ true) (ltb i used) (p i) (z i) (λ e. f i (ltb-true i used e)) (λ e. g i l (ltb-false i used e)))

-- ---- lists of lists

each-each : {A B C : Type 0} (g : B → C) (f : A → B) (l : List A) → each g (each f l) ≡ each (λ x. g (f x)) l
unfolding each
each-each g f [] = refl
each-each g f (x ∷ xs) = ap (λ r. g (f x) ∷ r) (each-each g f xs)

pub each-each-number : {B C : Type 0} (g : B → C) (f : ℕ → B) (n i : ℕ) (d : C) → i < n → get_or (each g (each f (numbers n))) i d ≡ g (f i)
each-each-number g f n i d h = rw (each-each g f (numbers n)) (each_number (λ x. g (f x)) n i d h)

-- rows of n, one after the other: element b of row c
rows_at : {A : Type 0} (f : ℕ → List A) (n : ℕ) → ((i : ℕ) → length (f i) ≡ n) → (i m c b : ℕ) (d : A)
    → c < m → b < n → get_or (joined (each f (from i m))) (c * n + b) d ≡ get_or (f (i + c)) b d
unfolding from each joined
rows_at f n len i zero c b d h k = absurd (omega arith)
rows_at f n len i (suc m) zero b d h k =
    let e : zero * n + b ≡ b = omega arith in
    let z : i + zero ≡ i = omega arith in
    rw (e, z) (get_or-append (f i) (joined (each f (from (suc i) m))) d b (omega (arith, len i)))
rows_at f n len i (suc m) (suc c) b d h k =
    let e : suc c * n + b ≡ length (f i) + (c * n + b) = omega (arith, len i, suc-mul c n) in
    let z : i + suc c ≡ suc i + c = omega arith in
    rw (e, z) (get_or-append-add (f i) (joined (each f (from (suc i) m))) (c * n + b) d ∙ rows_at f n len (suc i) m c b d (omega arith) k)

pub grid-at : {A : Type 0} (f : ℕ → ℕ → A) (m n c b : ℕ) (d : A) → c < m → b < n
    → get_or (joined (each (λ c. each (f c) (numbers n)) (numbers m))) (c * n + b) d ≡ f c b
grid-at f m n c b d h k =
    let z : 0 + c ≡ c = omega arith in
    rows_at (λ c. each (f c) (numbers n)) n (λ i. each-length (f i) (numbers n) ∙ numbers-length n) 0 m c b d h k
    ∙ each_number (f (0 + c)) n b d k ∙ ap (λ (i : ℕ). f i b) z
