-- Ordered rows: the code is k exactly when a situation of code k holds and none before it does, and 0 exactly when none holds
use Prim.Native.Nat.{ℕ, zero, suc, ◌≤◌, ◌<◌}
use mathlib.Core.Path.{◌≡◌, refl, sym, ◌∙◌}
use mathlib.Core.Logic.{◌⊎◌, inl, inr, ◌↔◌}
use mathlib.Core.Bool.{Bool, true, false, cond, true≢false}
use mathlib.Core.List.{List, [], ◌∷◌}
use native.Mathlib.Omega.{arith}
use lib.ListN.{length, get_or}
use Rattle.rules.specs.Codes.{Row, code_of}
use Rattle.rules.specs.Limits.{one_to}
use Rattle.rules.specs.Words.{every}
use Rattle.rules.proofs.Lists.{both, walk, every-at}
use Rattle.rules.proofs.Formed.{one-to}

-- row i of a list; what lies beyond the last never holds
abbrev pub row : List Row → ℕ → Row
row rs i = get_or rs i (record { holds = false; code = 0 })

-- some row of code k holds, and no row before it does
pub record First (rs : List Row) (k : ℕ) : Type 0 where
  pub at : ℕ
  pub inside : at < length rs
  pub holds : (row rs at).holds ≡ true
  pub code : (row rs at).code ≡ k
  pub before : (j : ℕ) → j < at → (row rs j).holds ≡ false

-- no situation holds
abbrev pub Free : List Row → Type 0
Free rs = (j : ℕ) → j < length rs → (row rs j).holds ≡ false

-- "0 done" is no refusal: a row's code is 1 to n
abbrev pub coded : (n : ℕ) → List Row → Bool
coded n rs = every (λ (r : Row). one_to n r.code) rs

later_first : (r : Row) (rs : List Row) (k : ℕ) → r.holds ≡ false → First rs k → First (r ∷ rs) k
later_first r rs k h f = record { at = suc f.at; inside = let z = f.inside in omega arith; holds = f.holds; code = f.code; before = go }
  where
    go : (j : ℕ) → j < suc f.at → (row (r ∷ rs) j).holds ≡ false
    go zero l = h
    go (suc j) l = f.before j (omega arith)

later_free : (r : Row) (rs : List Row) → r.holds ≡ false → Free rs → Free (r ∷ rs)
later_free r rs h f zero l = h
later_free r rs h f (suc j) l = f j (omega arith)

-- the code is a first row's, or it is 0 and nothing holds
pub code-first : (rs : List Row) → First rs (code_of rs) ⊎ ((code_of rs ≡ 0) × Free rs)
unfolding code_of
code-first [] = inr (refl, λ j l. absurd (omega arith))
code-first (r ∷ rs) = go r.holds refl (code-first rs)
  where
    go : (b : Bool) → r.holds ≡ b → First rs (code_of rs) ⊎ ((code_of rs ≡ 0) × Free rs) → First (r ∷ rs) (cond b r.code (code_of rs)) ⊎ ((cond b r.code (code_of rs) ≡ 0) × Free (r ∷ rs))
    go true h f = inl (record { at = 0; inside = omega arith; holds = h; code = refl; before = λ j l. absurd (omega arith) })
    go false h (inl f) = inl (later_first r rs (code_of rs) h f)
    go false h (inr f) = inr (f.0, later_free r rs h f.1)

-- and no other code is
pub first_code : (rs : List Row) (k : ℕ) → First rs k → code_of rs ≡ k
unfolding code_of
first_code [] k f = let z = f.inside in absurd (omega arith)
first_code (r ∷ rs) k f = go f.at f.inside f.holds f.code f.before (first_code rs k)
  where
    go : (i : ℕ) → i < suc (length rs) → (row (r ∷ rs) i).holds ≡ true → (row (r ∷ rs) i).code ≡ k → ((j : ℕ) → j < i → (row (r ∷ rs) j).holds ≡ false) → (First rs k → code_of rs ≡ k) → cond r.holds r.code (code_of rs) ≡ k
    go zero l h c b f = rw h c
    go (suc i) l h c b f = rw (b 0 (omega arith)) (f (record { at = i; inside = omega arith; holds = h; code = c; before = λ j m. b (suc j) (omega arith) }))

-- no row above n, no code above n
pub code-most : (n : ℕ) (rs : List Row) → coded n rs ≡ true → code_of rs ≤ n
unfolding code_of every
code-most n [] h = omega arith
code-most n (r ∷ rs) h =
    let b = both (one_to n r.code) (coded n rs) h in
    walk (λ (m : ℕ). m ≤ n) r.holds r.code (code_of rs) (λ _. (one-to n r.code b.0).1) (λ _. code-most n rs b.1)

module _ (rs : List Row) (proper : coded 8 rs ≡ true) where
  -- a first row's code is 1 to 8
  pub first_range : (k : ℕ) → First rs k → (1 ≤ k) × (k ≤ 8)
  first_range k f =
      one-to 8 k (rw f.code at (every-at (λ (r : Row). one_to 8 r.code) rs f.at (record { holds = false; code = 0 }) proper f.inside))

  -- code k, not 0: exactly when a situation of code k holds and none before it does
  pub refused_exactly : (k : ℕ) → (k ≡ 0 → ⊥) → (code_of rs ≡ k) ↔ First rs k
  refused_exactly k n = (there, first_code rs k)
    where
      there : code_of rs ≡ k → First rs k
      there e = go (code-first rs)
        where
          go : First rs (code_of rs) ⊎ ((code_of rs ≡ 0) × Free rs) → First rs k
          go (inl f) = rw e at f
          go (inr f) = absurd (n (sym e ∙ f.0))

  -- code 0: exactly when none holds
  pub granted_exactly : (code_of rs ≡ 0) ↔ Free rs
  granted_exactly = (there, back)
    where
      there : code_of rs ≡ 0 → Free rs
      there e = go (code-first rs)
        where
          go : First rs (code_of rs) ⊎ ((code_of rs ≡ 0) × Free rs) → Free rs
          go (inl f) = let z = first_range (code_of rs) f in absurd (omega (arith, e, z.0))
          go (inr f) = f.1

      back : Free rs → code_of rs ≡ 0
      back free = go (code-first rs)
        where
          go : First rs (code_of rs) ⊎ ((code_of rs ≡ 0) × Free rs) → code_of rs ≡ 0
          go (inl f) = absurd (true≢false (sym f.holds ∙ free f.at f.inside))
          go (inr f) = f.0
