-- Of the elements in use, those from `first` on, as far as a loop has come
use Prim.Native.Nat.{ℕ, ◌+◌, ◌-◌, ◌≤◌, ◌<◌}
use mathlib.Core.Path.{◌≡◌, sym, ap, ◌∙◌}
use mathlib.Core.List.{List, [], ◌∷◌, ◌++◌}
use native.Mathlib.Omega.{arith}
use lib.ListN.{length, get_or, take, drop, set, replicate, length-take, length-drop, length-replicate, drop_of_length-le}
use lib.Seq.{drop-append-le, length-take-le, take_all}
use Rattle.std.proofs.lemmas.List.{take_more}
use Rattle.rules.specs.Words.{filled}
use Rattle.rules.proofs.Loops.{filled_more}

module _ {A : Type 0} (n : ℕ) (unused : A) (first : ℕ) (used : List A) where
  abbrev pub kept : ℕ → List A
  kept i = filled n unused (drop first (take i used))

  pub kept-none : replicate n unused ≡ kept first
  kept-none =
      let none : drop first (take first used) ≡ [] = drop_of_length-le (take first used) (omega (arith, length-take first used)) in
      rw none (sym (take_all n (replicate n unused) (omega (arith, length-replicate n unused))))

  pub kept_more : (i : ℕ) (x d : A) → first ≤ i → i < length used → x ≡ get_or used i d → set (kept i) (i - first) x ≡ kept (i + 1)
  kept_more i x d h k is =
      let l = drop first (take i used) in
      let taken : length (take i used) ≡ i = length-take-le i used (omega arith) in
      let at : i - first ≡ length l = omega (arith, length-drop first (take i used)) in
      let more : drop first (take (i + 1) used) ≡ l ++ x ∷ [] =
      ap (drop first) (take_more used i d k) ∙ drop-append-le first (take i used) _ (omega arith) ∙ ap (λ (y : A). l ++ y ∷ []) (sym is) in
      ap (λ (j : ℕ). set (kept i) j x) at ∙ filled_more unused x n l ∙ ap (filled n unused) (sym more)

  pub kept_all : (i : ℕ) → length used ≤ i → kept i ≡ filled n unused (drop first used)
  kept_all i h = ap (λ (l : List A). filled n unused (drop first l)) (take_all i used h)
