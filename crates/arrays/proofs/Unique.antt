-- Each public function's promise determines its answer, or the array that it leaves
use Prim.Native.Nat.{ℕ}
use mathlib.Core.Path.{◌≡◌, refl, sym, ◌∙◌}
use mathlib.Core.List.{List}
use seplogic.Ra.Ura.{Ura}
use lib.ListN.{get_or, set}
use base.Logic.{SProp}
use prog.Memory.{Memory}
use prog.Routine.{Routine}
use types.Logic.{Logic}
use contract.Monad.{Fun, fact}
use contract.Lifetimes.{Lfts}
use mir.Syntax.{Dict}
use Rattle.std.specs.declared.clone.Clone.{Ghosts}
use denote.RattleType.{RattleType}
use denote.Triple.Entry.{Args}
use denote.Triple.Clauses.{AtExit}
use Rattle.arrays.specs.contracts.at as at_contract
use Rattle.arrays.specs.contracts.put as put_contract

-- what a caller of each learns
abbrev Read : {A : Type 0} → List A → (i : ℕ) (beyond out : A) → Type 0
Read xs i beyond out = out ≡ get_or xs i beyond

abbrev Left : {A : Type 0} → List A → (i : ℕ) (x : A) → (left : List A) → Type 0
Left xs i x left = left ≡ set xs i x

module _ {M : Type 1} {𝓤 : Ura M} (𝓛 : Logic 𝓤) (at_mem : Memory → SProp 𝓤) (run : Routine → Fun 𝓤) (κs : Lfts 2) (T : RattleType) (G : Ghosts T.Denot) (D : Dict) where
  -- it is all that the contract states
  at_states : (a : Args (at_contract.signature T) κs) (out : T.Denot) (end : AtExit (at_contract.ended T G D) κs)
      → (at_contract.clauses T G D 𝓛 at_mem run κs a).ensures tt out end ≡ fact 𝓤 (Read a.0.now a.1.0 a.1.1.0 out)
  at_states a out end = refl

  put_states : (a : Args (put_contract.signature T) κs) (out : Unit {0}) (end : AtExit (put_contract.ended T G D) κs)
      → (put_contract.clauses T G D 𝓛 at_mem run κs a).ensures tt out end ≡ fact 𝓤 (Left a.0.now a.1.0 a.1.1.0 end.0.now)
  put_states a out end = refl

module _ {A : Type 0} (xs : List A) (i : ℕ) where
  at-unique : (beyond x y : A) → Read xs i beyond x → Read xs i beyond y → x ≡ y
  at-unique beyond x y h k = h ∙ sym k

  put-unique : (x : A) (left right : List A) → Left xs i x left → Left xs i x right → left ≡ right
  put-unique x left right h k = h ∙ sym k
