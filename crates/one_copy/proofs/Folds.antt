-- Laws of the words that settlement and the lists are written with: the greatest of a list, the first that is, every of those
use Prim.Native.Nat.{ℕ, suc, ◌≤◌, ◌<◌}
use mathlib.Core.Path.{◌≡◌, refl, sym, ◌∙◌}
use mathlib.Core.Logic.{◌⊎◌, inl, inr}
use mathlib.Core.Bool.{Bool, true, false, cond, not, ◌||◌, true≢false}
use mathlib.Core.List.{List, [], ◌∷◌}
use native.Mathlib.Omega.{arith}
use lib.ListN.{length, get_or}
use Rattle.rules.specs.Words.{those, every, place, fold}
use Rattle.rules.proofs.Lists.{upper, upper-left, upper_right, upper-one, every-at, every_of, implied, implies, every-those}
use Rattle.one_copy.proofs.Lists.{Any}

-- ---- the one with the greatest key, from s on

module _ {A : Type 0} (key : A → ℕ) where
  -- the greatest is not below s
  pub top_up : (s : A) (l : List A) → key s ≤ key (fold (upper key) s l)
  unfolding fold
  top_up s [] = omega arith
  top_up s (x ∷ xs) = let z = top_up (upper key s x) xs in let y = upper-left key s x in omega arith

  -- nor below any of the list
  pub top-all : (s : A) (l : List A) (k : ℕ) → Any (λ x. key x ≡ k) l → k ≤ key (fold (upper key) s l)
  unfolding fold
  top-all s [] k h = absurd h
  top-all s (x ∷ xs) k (inl h) = let z = top_up (upper key s x) xs in let y = upper_right key s x in omega arith
  top-all s (x ∷ xs) k (inr h) = top-all (upper key s x) xs k h

  -- and is s or one of the list
  pub top_is : (s : A) (l : List A) → (fold (upper key) s l ≡ s) ⊎ Any (λ x. x ≡ fold (upper key) s l) l
  unfolding fold
  top_is s [] = inl refl
  top_is s (x ∷ xs) = elim (top_is (upper key s x) xs) [
    | inl e ↦ elim (upper-one key s x) [
      | inl q ↦ inl (e ∙ q)
      | inr q ↦
          inr (inl (sym (e ∙ q)))
    ]
    | inr e ↦ inr (inr e)
  ]

-- ---- the first that is p

-- where one is p, the first is, and it is in the list
pub place_at_lem : {A : Type 0} (p : A → Bool) (l : List A) (d : A) → Any (λ x. p x ≡ true) l → (place p l < length l)
    × (p (get_or l (place p l) d) ≡ true)
unfolding place
place_at_lem p [] d h = absurd h
place_at_lem p (x ∷ xs) d h = go (p x) refl h (place_at_lem p xs d)
  where
    go : (t : Bool) → p x ≡ t → (p x ≡ true) ⊎ Any (λ x. p x ≡ true) xs
        → (Any (λ x. p x ≡ true) xs → (place p xs < length xs) × (p (get_or xs (place p xs) d) ≡ true))
        → (cond t 0 (suc (place p xs)) < suc (length xs)) × (p (get_or (x ∷ xs) (cond t 0 (suc (place p xs))) d) ≡ true)
    go true e h f = (omega arith, e)
    go false e (inl z) f = absurd (true≢false (sym z ∙ e))
    go false e (inr z) f = let r = f z in (omega (arith, r.0), r.1)

-- ---- every of those

module _ {A : Type 0} (q p : A → Bool) where
  -- one of those is q
  pub those-at : (l : List A) (i : ℕ) (d : A) → every q (those p l) ≡ true → i < length l → p (get_or l i d) ≡ true → q (get_or l i d) ≡ true
  those-at l i d h k = implied (p (get_or l i d)) (q (get_or l i d)) (every-at (λ x. not (p x) || q x) l i d (sym (every-those q p l) ∙ h) k)

  -- the way back
  pub those_of : (l : List A) (d : A) → ((i : ℕ) → i < length l → p (get_or l i d) ≡ true → q (get_or l i d) ≡ true)
      → every q (those p l) ≡ true
  those_of l d h = every-those q p l ∙ every_of (λ x. not (p x) || q x) l d (λ i k. implies (p (get_or l i d)) (q (get_or l i d)) (h i k))

  -- where not every one is q, one of those is not
  pub those-not : (l : List A) (d : A) → every q (those p l) ≡ false → (i : ℕ) × (i < length l) × (p (get_or l i d) ≡ true)
      × (q (get_or l i d) ≡ false)
  unfolding every those
  those-not [] d h = absurd (true≢false h)
  those-not (x ∷ xs) d h = go (p x) refl (q x) refl h (those-not xs d)
    where
      later : (every q (those p xs) ≡ false → (i : ℕ) × (i < length xs) × (p (get_or xs i d) ≡ true) × (q (get_or xs i d) ≡ false))
          → every q (those p xs) ≡ false
          → (i : ℕ) × (i < suc (length xs)) × (p (get_or (x ∷ xs) i d) ≡ true) × (q (get_or (x ∷ xs) i d) ≡ false)
      later f z = let r = f z in (suc r.0, omega (arith, r.1), r.2, r.3)

      go : (t : Bool) → p x ≡ t → (u : Bool) → q x ≡ u → every q (cond t (x ∷ those p xs) (those p xs)) ≡ false
          → (every q (those p xs) ≡ false → (i : ℕ) × (i < length xs) × (p (get_or xs i d) ≡ true) × (q (get_or xs i d) ≡ false))
          → (i : ℕ) × (i < suc (length xs)) × (p (get_or (x ∷ xs) i d) ≡ true) × (q (get_or (x ∷ xs) i d) ≡ false)
      go true e false o z f = (0, omega arith, e, o)
      go true e true o z f = later f (rw o at z)
      go false e u o z f = later f z
