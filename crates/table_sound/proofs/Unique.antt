-- Each public function's promise determines its answer
use mathlib.Core.Bool.{Bool}
use mathlib.Core.Path.{◌≡◌, refl}
use seplogic.Ra.Ura.{Ura}
use base.Logic.{SProp}
use prog.Memory.{Memory}
use prog.Routine.{Routine}
use types.Logic.{Logic}
use contract.Monad.{Fun, fact}
use contract.Lifetimes.{Lfts}
use denote.Triple.Entry.{Args}
use denote.Triple.Clauses.{AtExit}
use Rattle.rules.specs.Formed.{well_formed}
use Rattle.rules.specs.declared.Table.{Table}
use Rattle.rules.proofs.Unique.{unique, Determined}
use Rattle.table_sound.proofs.is_creation.Reads as is_creation_contract
use Rattle.table_sound.specs.contracts.sound_in as sound_in_contract

is_creation-unique : Determined is_creation_contract.Learnt
is_creation-unique κs a x y s u = unique

-- what a caller of `sound_in` learns
abbrev Looked : Table → (out : Bool) → Type 0
Looked t out = out ≡ well_formed t

-- it is all that the contract states
sound_in_states : {M : Type 1} {𝓤 : Ura M} (𝓛 : Logic 𝓤) (at_mem : Memory → SProp 𝓤) (run : Routine → Fun 𝓤) (κs : Lfts 1) (a : Args sound_in_contract.signature κs) (out : Bool) (end : AtExit sound_in_contract.ended κs)
    → (sound_in_contract.clauses 𝓛 at_mem run κs a).ensures tt out end ≡ fact 𝓤 (Looked a.0.now out)
sound_in_states 𝓛 at_mem run κs a out end = refl

sound_in-unique : (t : Table) (x y : Bool) → Looked t x → Looked t y → x ≡ y
sound_in-unique t x y = unique
