-- An array that a closure makes place by place is the rule's list
use Prim.Native.Nat.{ℕ, zero, suc, ◌+◌, ◌≤◌, ◌<◌}
use mathlib.Core.Path.{◌≡◌, refl, ◌∙◌}
use mathlib.Core.List.{List}
use native.Mathlib.Decide.{ℕ_discrete}
use native.Mathlib.Omega.{arith}
use lib.ListN.{get_or}
use denote.Param.Members.{Mut, Called}
use Rattle.std.specs.Array.{IsFromFnResult, IsFromFnResultFrom}
use Rattle.rules.specs.Words.{each, numbers}
use Rattle.rules.proofs.Loops.{each_of}

-- a closure that no call changes gives the same at one number every time
module _ {F B : Type 0} (g : Mut F (ℕ × Unit {0}) B) (h : ℕ → B) (f : F) (same : (i : ℕ) (y : B) (q : F) → Called g f (i, tt) y q → (q ≡ f) × (y ≡ h i)) (ys : List B) (d : B) where
  made_at : (m i : ℕ) (p : F) → p ≡ f → IsFromFnResultFrom g p ys i m → (j : ℕ) → i ≤ j → j < i + m → get_or ys j d ≡ h j
  made_at zero i p e calls j low high = absurd (omega arith)
  made_at (suc m) i p e calls j low high =
      let call = same i calls.1 calls.0 (rw e at calls.3) in
      go (calls.2.1 d ∙ call.1) (λ k. made_at m (i + 1) calls.0 call.0 calls.4 j k (omega arith)) (ℕ_discrete j i)
    where
      go : get_or ys i d ≡ h i → (i + 1 ≤ j → get_or ys j d ≡ h j) → Dec (j ≡ i) → get_or ys j d ≡ h j
      go here later (yes k) = rw k here
      go here later (no k) = later (omega arith)

  pub each_made : (n : ℕ) → IsFromFnResult g f ys n → ys ≡ each h (numbers n)
  each_made n made = each_of d h n ys made.long (λ i k. made_at n 0 f refl made.each i (omega arith) (omega arith))
