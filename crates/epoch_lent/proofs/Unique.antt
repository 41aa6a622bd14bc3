-- The public function's promise determines its answer and the table that it leaves
use Rattle.std.specs.Prelude.{Result}
use mathlib.Core.Path.{◌≡◌, refl}
use seplogic.Ra.Ura.{Ura}
use base.Logic.{SProp}
use prog.Memory.{Memory}
use prog.Routine.{Routine}
use types.Logic.{Logic}
use contract.Monad.{Fun, fact}
use contract.Lifetimes.{Lfts}
use denote.Triple.Entry.{Args}
use denote.Triple.Clauses.{AtExit}
use Rattle.rules.specs.declared.Epoch.{Epoch}
use Rattle.rules.specs.declared.Table.{Table}
use Rattle.rules.specs.declared.Refused.{Refused}
use Rattle.rules.specs.Codes.{code_of, ruled}
use Rattle.rules.specs.Events.{epoch_refusals, epoch_changed}
use Rattle.rules.specs.Timestamps.{next}
use Rattle.rules.proofs.Unique.{unique}
use Rattle.epoch_lent.specs.Steps.{changed_to}
use Rattle.epoch_lent.specs.contracts.change_in as change_in_contract

-- what a caller learns: its two equations
abbrev Learnt : Table → (later : Epoch) → (out : Result (Unit {0}) Refused) (left : Table) → Type 0
Learnt t later out left = (out ≡ ruled (epoch_refusals t.creation t.epoch t.chunks) tt) × (left ≡ changed_to later t)

-- they are all that its contract states
change_in_states : {M : Type 1} {𝓤 : Ura M} (𝓛 : Logic 𝓤) (at_mem : Memory → SProp 𝓤) (run : Routine → Fun 𝓤)
    (κs : Lfts 1) (a : Args change_in_contract.signature κs) (out : Result (Unit {0}) Refused) (end : AtExit change_in_contract.ended κs)
    → (change_in_contract.clauses 𝓛 at_mem run κs a).ensures tt out end ≡ fact 𝓤 (Learnt a.0.now a.1.0 out end.0.now)
change_in_states 𝓛 at_mem run κs a out end = refl

change_in-unique : (t : Table) (later : Epoch) (x y : Result (Unit {0}) Refused) (left right : Table) → Learnt t later x left → Learnt t later y right → (x ≡ y) × (left ≡ right)
change_in-unique t later x y left right p q = (unique p.0 q.0, unique p.1 q.1)

-- where next is the epoch that follows, this is what rules' step leaves
change_in_effect : (t : Table) → code_of (epoch_refusals t.creation t.epoch t.chunks) ≡ 0 → changed_to (next t.epoch) t ≡ epoch_changed t
change_in_effect t h = rw h refl
