-- `Any P l`: some element of l has P. It computes on the list, and each list function of the rules has one law for it
use Prim.Native.Nat.{ℕ, zero, suc, ◌+◌, ◌≤◌, ◌<◌}
use mathlib.Core.Path.{◌≡◌, refl}
use mathlib.Core.Logic.{◌⊎◌, inl, inr}
use mathlib.Core.Bool.{Bool, true, false, cond, ◌||◌, false≢true}
use mathlib.Core.List.{List, [], ◌∷◌, ◌++◌}
use native.Mathlib.Omega.{arith}
use lib.ListN.{length, get_or, set}
use lib.Seq.{get_or-set_same, get_or-set_other}
use Rattle.rules.specs.Words.{those, each, joined, some, from, numbers}
use Rattle.one_copy.proofs.Tests.{at, at_same, at_other, eq_or_ne}

module _ {A : Type 0} where
  -- some element has P
  abbrev pub Any : (A → Type 0) → List A → Type 0
  Any P [] = ⊥
  Any P (x ∷ xs) = P x ⊎ Any P xs

  -- what has P has Q
  pub any_map : (P Q : A → Type 0) → ((x : A) → P x → Q x) → (l : List A) → Any P l → Any Q l
  any_map P Q f [] h = h
  any_map P Q f (x ∷ xs) (inl p) = inl (f x p)
  any_map P Q f (x ∷ xs) (inr p) = inr (any_map P Q f xs p)

  -- the element at an index
  pub any_get_d : (P : A → Type 0) (l : List A) (i : ℕ) (d : A) → (P d → ⊥) → P (get_or l i d) → Any P l
  any_get_d P [] i d n h = n h
  any_get_d P (x ∷ xs) zero d n h = inl h
  any_get_d P (x ∷ xs) (suc i) d n h = inr (any_get_d P xs i d n h)

  -- a store of one element
  pub any_set : (P : A → Type 0) (l : List A) (i : ℕ) (a : A) → Any P (set l i a) → Any P l ⊎ P a
  any_set P [] i a h = absurd h
  any_set P (x ∷ xs) zero a (inl h) = inr h
  any_set P (x ∷ xs) zero a (inr h) = inl (inr h)
  any_set P (x ∷ xs) (suc i) a (inl h) = inl (inl h)
  any_set P (x ∷ xs) (suc i) a (inr h) = elim (any_set P xs i a h) [ inl q ↦ inl (inr q) | inr q ↦ inr q ]

  -- one list after another
  pub any_append : (P : A → Type 0) (l m : List A) → Any P (l ++ m) → Any P l ⊎ Any P m
  any_append P [] m h = inr h
  any_append P (x ∷ xs) m (inl h) = inl (inl h)
  any_append P (x ∷ xs) m (inr h) = elim (any_append P xs m h) [ inl q ↦ inl (inr q) | inr q ↦ inr q ]

  -- the way back, from the first
  pub any_left : (P : A → Type 0) (l m : List A) → Any P l → Any P (l ++ m)
  any_left P [] m h = absurd h
  any_left P (x ∷ xs) m (inl h) = inl h
  any_left P (x ∷ xs) m (inr h) = inr (any_left P xs m h)

  -- and from the second
  pub any_right : (P : A → Type 0) (l m : List A) → Any P m → Any P (l ++ m)
  any_right P [] m h = h
  any_right P (x ∷ xs) m h = inr (any_right P xs m h)

  -- an element, out of the list
  pub any_at : (P : A → Type 0) (l : List A) (d : A) → Any P l → (i : ℕ) × (i < length l) × P (get_or l i d)
  any_at P [] d h = absurd h
  any_at P (x ∷ xs) d (inl h) = (0, omega arith, h)
  any_at P (x ∷ xs) d (inr h) = let r = any_at P xs d h in let k = r.1 in (suc r.0, omega arith, r.2)

  -- those that pass a test
  pub any_those : (p : A → Bool) (P : A → Type 0) (l : List A) → Any P (those p l) → Any (λ x. (p x ≡ true) × P x) l
  unfolding those
  any_those p P [] h = h
  any_those p P (x ∷ xs) h = go (p x) refl h (any_those p P xs)
    where
      go : (t : Bool) → p x ≡ t → Any P (cond t (x ∷ those p xs) (those p xs)) → (Any P (those p xs) → Any (λ x. (p x ≡ true) × P x) xs)
          → ((p x ≡ true) × P x) ⊎ Any (λ x. (p x ≡ true) × P x) xs
      go true e (inl z) f = inl (e, z)
      go true e (inr z) f = inr (f z)
      go false e z f = inr (f z)

  -- the way back
  pub those_any : (p : A → Bool) (P : A → Type 0) (l : List A) → Any (λ x. (p x ≡ true) × P x) l → Any P (those p l)
  unfolding those
  those_any p P [] h = h
  those_any p P (x ∷ xs) (inl h) = rw h.0 (inl h.1)
  those_any p P (x ∷ xs) (inr h) = go (p x) (those_any p P xs h)
    where
      go : (t : Bool) → Any P (those p xs) → Any P (cond t (x ∷ those p xs) (those p xs))
      go true z = inr z
      go false z = z

  -- `some`, as a test and as a fact
  pub some_any : (p : A → Bool) (l : List A) → some p l ≡ true → Any (λ x. p x ≡ true) l
  unfolding some
  some_any p [] h = absurd (false≢true h)
  some_any p (x ∷ xs) h = go (p x) refl h (some_any p xs)
    where
      go : (t : Bool) → p x ≡ t → t || some p xs ≡ true → (some p xs ≡ true → Any (λ x. p x ≡ true) xs) → (p x ≡ true)
          ⊎ Any (λ x. p x ≡ true) xs
      go true e h f = inl e
      go false e h f = inr (f h)

  -- the way back
  pub any_some : (p : A → Bool) (l : List A) → Any (λ x. p x ≡ true) l → some p l ≡ true
  unfolding some
  any_some p [] h = absurd h
  any_some p (x ∷ xs) (inl h) = rw h refl
  any_some p (x ∷ xs) (inr h) = go (p x) (any_some p xs h)
    where
      go : (t : Bool) → some p xs ≡ true → t || some p xs ≡ true
      go true z = refl
      go false z = z

  -- reading a list that was written to is reading a function that was written to
  pub get_d_set : (l : List A) (i : ℕ) (a d : A) → i < length l → (j : ℕ) → get_or (set l i a) j d ≡ at i a (λ k. get_or l k d) j
  get_d_set l i a d h j = elim (eq_or_ne j i) [
    | inl q ↦ rw (q, get_or-set_same l i a d h, at_same i a (λ k. get_or l k d))
    | inr n ↦ rw (get_or-set_other l i j a d n, at_other i a (λ k. get_or l k d) j n)
  ]

module _ {A B : Type 0} where
  -- f of each
  pub any_each : (f : A → B) (P : B → Type 0) (l : List A) → Any P (each f l) → Any (λ x. P (f x)) l
  unfolding each
  any_each f P [] h = h
  any_each f P (x ∷ xs) (inl h) = inl h
  any_each f P (x ∷ xs) (inr h) = inr (any_each f P xs h)

  -- the way back
  pub each_any : (f : A → B) (P : B → Type 0) (l : List A) → Any (λ x. P (f x)) l → Any P (each f l)
  unfolding each
  each_any f P [] h = h
  each_any f P (x ∷ xs) (inl h) = inl h
  each_any f P (x ∷ xs) (inr h) = inr (each_any f P xs h)

  -- the witness out of `Any`
  pub any_out : (P : A → B → Type 0) (l : List B) → Any (λ e. (a : A) × P a e) l → (a : A) × Any (P a) l
  any_out P [] h = absurd h
  any_out P (e ∷ l) (inl h) = (h.0, inl h.1)
  any_out P (e ∷ l) (inr h) = let z = any_out P l h in (z.0, inr z.1)

-- the lists one after the other
pub joined_any : {A : Type 0} (P : A → Type 0) (ls : List (List A)) → Any (Any P) ls → Any P (joined ls)
unfolding joined
joined_any P [] h = h
joined_any P (l ∷ ls) (inl h) = any_left P l (joined ls) h
joined_any P (l ∷ ls) (inr h) = any_right P l (joined ls) (joined_any P ls h)

-- the numbers below n
any_from : (P : ℕ → Type 0) (i n : ℕ) → Any P (from i n) → (j : ℕ) × (j < i + n) × P j
unfolding from
any_from P i zero h = absurd h
any_from P i (suc n) (inl h) = (i, omega arith, h)
any_from P i (suc n) (inr h) = let r = any_from P (suc i) n h in let k = r.1 in (r.0, omega arith, r.2)

-- the way back
from_any : (P : ℕ → Type 0) (i n j : ℕ) → i ≤ j → j < i + n → P j → Any P (from i n)
unfolding from
from_any P i zero j a l h = absurd (omega arith)
from_any P i (suc n) j a l h = elim (eq_or_ne j i) [
  | inl q ↦ inl (rw q at h)
  | inr q ↦
      inr (from_any P (suc i) n j (omega arith) (omega arith) h)
]

-- a number below n that has P
pub any_numbers : (P : ℕ → Type 0) (n : ℕ) → Any P (numbers n) → (j : ℕ) × (j < n) × P j
any_numbers P n h = let r = any_from P 0 n h in let k = r.1 in (r.0, omega arith, r.2)

-- the way back
pub numbers_any : (P : ℕ → Type 0) (n j : ℕ) → j < n → P j → Any P (numbers n)
numbers_any P n j l h = from_any P 0 n j (omega arith) (omega arith) h
