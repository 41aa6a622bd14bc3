-- A part of what lies in memory, taken out and put back with another value: `Hole`. A field that is an array, an element of an array, and a hole within a hole.
use mathlib.Core.Path.{◌≡◌, refl, sym, ◌∙◌, subst}
use Prim.Native.Nat.{ℕ, ◌<◌, ◌≤◌}
use mathlib.Core.Bool.{not}
use native.Mathlib.Omega.{arith}
use mathlib.Core.List.{List, [], ◌∷◌}
use lib.Dec.{T, ltb, ltb→lt, nltb→le}
use lib.ListN.{length, get_or, set, length-set}
use seplogic.Ra.Ura.{Ura}
use base.Logic.{SProp, ent, sep, wand, guard, guard_i, apply∗}
use base.Fml.{Share, Fml}
use types.Logic.{Logic, sem}
use types.Kit.{‵, raw, ◌⊛◌, ◌$◌, ◌∵◌, !, qed, by, use1, use2, split, assume, frame, rewrite, fsplit, fjoin, feq_i, feq_l, done}
use types.SemTy.{cells}
use types.Share.{arr_parts}
use denote.RattleType.{RattleType}
use denote.Memory.{part_at, mem, shares}
use denote.Array.{Array}
use denote.ArrayMemory.{Single, Array-apart, Array-whole}
use borrow.Table.Elements.{at, focus}
use borrow.Rule.Slice.Shared.{Sh, parts-cells}

-- an index that is tested against m, and the end n of an array
pub reaches : (k m n : ℕ) → T (ltb k m) → m ≤ n → k < n
reaches k m n t le = omega (arith, ltb→lt k m t)

pub passes : (k m n : ℕ) → T (not (ltb k m)) → n ≤ m → n ≤ k
passes k m n t le = omega (arith, nltb→le k m t)

module _ {M : Type 1} {𝓤 : Ura M} (𝓛 : Logic 𝓤) where
  -- the way back
  abbrev pub Back : (q : Share) (R P : RattleType) (h' : R.Denot) (x' : P.Denot) (b o o' : ℕ) → SProp 𝓤
  Back q R P h' x' b o o' = wand 𝓤 (sem 𝓛 (part_at P q x' b o')) (sem 𝓛 (part_at R q h' b o))

  abbrev pub Hole : (q : Share) (R P : RattleType) (h h' : R.Denot) (x x' : P.Denot) (b o o' : ℕ) → Type 1
  Hole q R P h h' x x' b o o' = ent 𝓤 (sem 𝓛 (part_at R q h b o)) (sep 𝓤 (sem 𝓛 (part_at P q x b o')) (Back q R P h' x' b o o'))

module _ {M : Type 1} {𝓤 : Ura M} (𝓛 : Logic 𝓤) where
  pub within : (q : Share) (R P S : RattleType) (h h' : R.Denot) (x x' : P.Denot) (y y' : S.Denot) (b o o' o'' : ℕ)
      → Hole 𝓛 q R P h h' x x' b o o' → Hole 𝓛 q P S x x' y y' b o' o'' → Hole 𝓛 q R S h h' y y' b o o''
  within q R P S h h' x x' y y' b o o' o'' f g =
      qed 𝓛 (‵ (part_at R q h b o) ∷ []) ∵ use1 𝓛 (‵ (part_at P q x b o') ⊛ raw (Back 𝓛 q R P h' x' b o o')) f $ split ! $
      use1 𝓛 (‵ (part_at S q y b o'') ⊛ raw (Back 𝓛 q P S x' y' b o' o'')) g $ split ! $ frame ! $ assume {P = sem 𝓛 (part_at R q h' b o)} ! (‵ (part_at S q y' b o'')) $
      use2 𝓛 (‵ (part_at P q x' b o')) (apply∗ 𝓤 (sem 𝓛 (part_at S q y' b o'')) (sem 𝓛 (part_at P q x' b o'))) $
      use2 𝓛 (‵ (part_at R q h' b o)) (apply∗ 𝓤 (sem 𝓛 (part_at P q x' b o')) (sem 𝓛 (part_at R q h' b o))) $ done !

  pub element : (q : Share) (P : RattleType) → Single P.mir → (n : ℕ) (xs : List P.Denot) (ix : ℕ) (dv y : P.Denot) (b o : ℕ) → ix < n
      → Hole 𝓛 q (Array P n) P xs (set xs ix y) (get_or xs ix dv) y b o (at o (mem P).size ix)
  element q P one n xs ix dv y b o lt =
      qed 𝓛 (‵ (part_at (Array P n) q xs b o) ∷ []) ∵ use1 𝓛 (‵ ((arr_parts (shares P) n).part q xs b o)) (Array-apart 𝓛 P q one n xs b o) $ fsplit ! $ feq_l ! (λ l.
      rewrite ! 0 (λ (F : Fml). ‵ F) (parts-cells P q xs b o) refl $
      use1 𝓛 (‵ (part_at P q (get_or xs ix dv) b (at o (mem P).size ix)) ⊛ raw (wand 𝓤 (sem 𝓛 (part_at P q y b (at o (mem P).size ix))) (sem 𝓛 (cells (Sh P q) (set xs ix y) b o))))
      (focus 𝓛 (Sh P q) dv y ix xs b o (subst (λ (j : ℕ). ix < j) (sym l) lt)) $ split ! $ frame ! $
      assume {P = sem 𝓛 (part_at (Array P n) q (set xs ix y) b o)} ! (‵ (part_at P q y b (at o (mem P).size ix))) $
      use2 𝓛 (‵ (cells (Sh P q) (set xs ix y) b o)) (apply∗ 𝓤 (sem 𝓛 (part_at P q y b (at o (mem P).size ix))) (sem 𝓛 (cells (Sh P q) (set xs ix y) b o))) $
      rewrite ! 0 (λ (F : Fml). ‵ F) (sym (parts-cells P q (set xs ix y) b o)) refl $ feq_i ! ℕ (length (set xs ix y)) n (length-set xs ix y ∙ l) $ fjoin ! $
      use1 𝓛 (‵ (part_at (Array P n) q (set xs ix y) b o)) (Array-whole 𝓛 P q n (set xs ix y) b o) $ done !)

  -- an array that lies in memory has its length
  pub sized : (q : Share) (R P : RattleType) → Single P.mir → (n : ℕ) (h : R.Denot) (xs : List P.Denot) (b o o' : ℕ)
      → Hole 𝓛 q R (Array P n) h h xs xs b o o' → ent 𝓤 (sem 𝓛 (part_at R q h b o)) (guard 𝓤 (length xs ≡ n) (sem 𝓛 (part_at R q h b o)))
  sized q R P one n h xs b o o' f =
      qed 𝓛 (‵ (part_at R q h b o) ∷ []) ∵ use1 𝓛 (‵ (part_at (Array P n) q xs b o') ⊛ raw (Back 𝓛 q R (Array P n) h xs b o o')) f $ split ! $
      use1 𝓛 (‵ ((arr_parts (shares P) n).part q xs b o')) (Array-apart 𝓛 P q one n xs b o') $ fsplit ! $ feq_l ! (λ l. feq_i ! ℕ (length xs) n l $ fjoin ! $
      use1 𝓛 (‵ (part_at (Array P n) q xs b o')) (Array-whole 𝓛 P q n xs b o') $
      use2 𝓛 (‵ (part_at R q h b o)) (apply∗ 𝓤 (sem 𝓛 (part_at (Array P n) q xs b o')) (sem 𝓛 (part_at R q h b o))) $ by ! (guard_i 𝓤 (length xs ≡ n) (sem 𝓛 (part_at R q h b o)) l))
