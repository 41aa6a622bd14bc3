-- The public function's promise determines its answer and the table that it leaves
use Rattle.std.specs.Prelude.{Result}
use mathlib.Core.Path.{◌≡◌, refl}
use seplogic.Ra.Ura.{Ura}
use base.Logic.{SProp}
use prog.Memory.{Memory}
use prog.Routine.{Routine}
use types.Logic.{Logic}
use contract.Monad.{Fun, fact}
use contract.Lifetimes.{Lfts}
use denote.Triple.Entry.{Args}
use denote.Triple.Clauses.{AtExit}
use Rattle.rules.specs.declared.Table.{Table}
use Rattle.rules.specs.declared.Event.{Event}
use Rattle.rules.specs.declared.Outcome.{Outcome}
use Rattle.rules.specs.declared.Refused.{Refused}
use Rattle.rules.proofs.Unique.{unique}
use Rattle.event_parts.specs.Acts.{granting}
use Rattle.event_lent.specs.Touches.{left_of, acted_on}
use Rattle.event_lent.specs.contracts.act_in as act_in_contract

-- what a caller learns: two equations
abbrev Learnt : Table → Event → (out : Result Outcome Refused) (left : Table) → Type 0
Learnt t e out left = (out ≡ granting (λ x. x.outcome) (acted_on t e)) × (left ≡ left_of t (acted_on t e))

-- they are all that the contract states
act_in_states : {M : Type 1} {𝓤 : Ura M} (𝓛 : Logic 𝓤) (at_mem : Memory → SProp 𝓤) (run : Routine → Fun 𝓤)
    (κs : Lfts 1) (a : Args act_in_contract.signature κs) (out : Result Outcome Refused) (end : AtExit act_in_contract.ended κs)
    → (act_in_contract.clauses 𝓛 at_mem run κs a).ensures tt out end ≡ fact 𝓤 (Learnt a.0.now a.1.0 out end.0.now)
act_in_states 𝓛 at_mem run κs a out end = refl

act_in-unique : (t : Table) (e : Event) (x y : Result Outcome Refused) (left right : Table) → Learnt t e x left → Learnt t e y right → (x ≡ y) × (left ≡ right)
act_in-unique t e x y left right p q = (unique p.0 q.0, unique p.1 q.1)
