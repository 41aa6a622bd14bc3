-- An array by `array::from_fn` or `map`, with a closure that computes h, and changes nothing
use Prim.Native.Nat.{ℕ, zero, suc, ◌+◌, ◌<◌}
use mathlib.Core.Path.{◌≡◌, refl, sym, ap, subst, ◌∙◌}
use mathlib.Core.List.{List}
use native.Mathlib.Omega.{arith}
use lib.ListN.{length, get_or}
use denote.Param.Members.{Mut}
use Rattle.std.specs.Array.{IsFromFnResultFrom, IsFromFnResult, MapsFrom, IsMapOf}
use Rattle.std.specs.Fn.{Called}
use Rattle.std.proofs.lemmas.List.{ext_get_or, get_or-map}
use Rattle.rules.specs.Words.{each, numbers}
use Rattle.table_sets.proofs.Chains.{each-map}
use Rattle.rules.proofs.Lists.{each-length}
use Rattle.rules.proofs.Loops.{each_of}

module _ {F B : Type 0} (g : Mut F (ℕ × Unit {0}) B) (f : F) (h : ℕ → B) (pure : (i : ℕ) (y : B) (q : F) → Called g f (i, tt) y q → (q ≡ f) × (y ≡ h i)) (ys : List B) where
  from_fn_at : (p : F) → p ≡ f → (i n : ℕ) → IsFromFnResultFrom g p ys i n → (k : ℕ) (d : B) → k < n → get_or ys (i + k) d ≡ h (i + k)
  from_fn_at p e i zero r k d l = absurd (omega arith)
  from_fn_at p e i (suc n) r k d l = go k l (λ same j m. from_fn_at r.0 same (i + 1) n r.4 j d m)
    where
      called : Called g f (i, tt) r.1 r.0
      called = subst (λ (q : F). Called g q (i, tt) r.1 r.0) e r.3

      go : (k : ℕ) → k < suc n → (r.0 ≡ f → (j : ℕ) → j < n → get_or ys (i + 1 + j) d ≡ h (i + 1 + j)) → get_or ys (i + k) d ≡ h (i + k)
      go zero l more = let j : i + 0 ≡ i = omega arith in rw j (r.2.1 d ∙ (pure i r.1 r.0 called).1)
      go (suc k) l more = let j : i + suc k ≡ i + 1 + k = omega arith in rw j (more (pure i r.1 r.0 called).0 k (omega arith))

  pub from_fn_each : (n : ℕ) (d : B) → IsFromFnResult g f ys n → ys ≡ each h (numbers n)
  from_fn_each n d r = each_of d h n ys r.long (λ i k. let j : 0 + i ≡ i = omega arith in rw j at (from_fn_at f refl 0 n r.each i d k))

module _ {F A B : Type 0} (g : Mut F (A × Unit {0}) B) (f : F) (h : A → B) (pure : (x : A) (y : B) (q : F) → Called g f (x, tt) y q → (q ≡ f) × (y ≡ h x)) (xs : List A) (ys : List B) where
  map_at : (p : F) → p ≡ f → (i n : ℕ) → MapsFrom g p xs ys i n → (k : ℕ) (a : A) (d : B) → k < n → get_or ys (i + k) d ≡ h (get_or xs (i + k) a)
  map_at p e i zero r k a d l = absurd (omega arith)
  map_at p e i (suc n) r k a d l = go k l (λ same j m. map_at r.0 same (i + 1) n r.6 j a d m)
    where
      called : Called g f (r.1, tt) r.2 r.0
      called = subst (λ (q : F). Called g q (r.1, tt) r.2 r.0) e r.5

      go : (k : ℕ) → k < suc n → (r.0 ≡ f → (j : ℕ) → j < n → get_or ys (i + 1 + j) d ≡ h (get_or xs (i + 1 + j) a)) → get_or ys (i + k) d ≡ h (get_or xs (i + k) a)
      go zero l more = let j : i + 0 ≡ i = omega arith in rw j (r.4.1 d ∙ (pure r.1 r.2 r.0 called).1 ∙ ap h (sym (r.3.1 a)))
      go (suc k) l more = let j : i + suc k ≡ i + 1 + k = omega arith in rw j (more (pure r.1 r.2 r.0 called).0 k (omega arith))

  pub map_each : (n : ℕ) (a : A) (d : B) → length xs ≡ n → IsMapOf g f xs ys n → ys ≡ each h xs
  map_each n a d l r =
      ext_get_or d ys (each h xs) (r.long ∙ sym (each-length h xs ∙ l))
      (λ i k. let j : 0 + i ≡ i = omega arith in let m : i < n = rw r.long at k in (rw j at (map_at f refl 0 n r.each i a d m)) ∙ sym (rw each-map (get_or-map h xs i a d (rw l m))))
