-- Each public function's promise determines its answer, and `step_in`'s also the table that it leaves
use mathlib.Core.Path.{◌≡◌, refl}
use seplogic.Ra.Ura.{Ura}
use base.Logic.{SProp}
use prog.Memory.{Memory}
use prog.Routine.{Routine}
use types.Logic.{Logic}
use contract.Monad.{Fun, fact}
use contract.Lifetimes.{Lfts}
use denote.Triple.Entry.{Args}
use denote.Triple.Clauses.{AtExit}
use Rattle.rules.specs.declared.Table.{Table}
use Rattle.rules.specs.declared.Event.{Event}
use Rattle.rules.specs.declared.Answer.{Answer}
use Rattle.rules.specs.declared.Reply.{Reply}
use Rattle.rules.specs.Events.{step, reply_of}
use Rattle.rules.proofs.Unique.{unique, Determined}
use Rattle.engine.proofs.create.Reads as create_contract
use Rattle.engine.specs.contracts.step as step_contract
use Rattle.engine.specs.contracts.step_in as step_in_contract

create-unique : Determined create_contract.Learnt
create-unique κs a x y s u = unique

-- what a caller of the others learns
abbrev Answered : Table → Event → (out : Answer) → Type 0
Answered t e out = out ≡ step t e

abbrev Learnt : Table → Event → (out : Reply) (left : Table) → Type 0
Learnt t e out left = (out ≡ reply_of (step t e)) × (left ≡ (step t e).table)

module _ {M : Type 1} {𝓤 : Ura M} (𝓛 : Logic 𝓤) (at_mem : Memory → SProp 𝓤) (run : Routine → Fun 𝓤) where
  -- it is all that the contract states
  step_states : (κs : Lfts 0) (a : Args step_contract.signature κs) (out : Answer) (end : AtExit step_contract.ended κs)
      → (step_contract.clauses 𝓛 at_mem run κs a).ensures tt out end ≡ fact 𝓤 (Answered a.0 a.1.0 out)
  step_states κs a out end = refl

  step_in_states : (κs : Lfts 1) (a : Args step_in_contract.signature κs) (out : Reply) (end : AtExit step_in_contract.ended κs)
      → (step_in_contract.clauses 𝓛 at_mem run κs a).ensures tt out end ≡ fact 𝓤 (Learnt a.0.now a.1.0 out end.0.now)
  step_in_states κs a out end = refl

step-unique : (t : Table) (e : Event) (x y : Answer) → Answered t e x → Answered t e y → x ≡ y
step-unique t e x y = unique

step_in-unique : (t : Table) (e : Event) (x y : Reply) (left right : Table) → Learnt t e x left → Learnt t e y right → (x ≡ y) × (left ≡ right)
step_in-unique t e x y left right p q = (unique p.0 q.0, unique p.1 q.1)
