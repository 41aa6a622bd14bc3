-- The public function's promise determines its answer and the table that it leaves
use Prim.Native.Nat.{ℕ}
use Rattle.std.specs.Prelude.{Result}
use mathlib.Core.Path.{◌≡◌, refl}
use seplogic.Ra.Ura.{Ura}
use base.Logic.{SProp}
use prog.Memory.{Memory}
use prog.Routine.{Routine}
use types.Logic.{Logic}
use contract.Monad.{Fun, fact}
use contract.Lifetimes.{Lfts}
use denote.Triple.Entry.{Args}
use denote.Triple.Clauses.{AtExit}
use Rattle.rules.specs.declared.Refused.{Refused}
use Rattle.rules.specs.declared.Table.{Table}
use Rattle.rules.specs.Codes.{code_of, ruled}
use Rattle.rules.specs.Chunks.{fail_refusals}
use Rattle.rules.specs.Events.{fail_rule}
use Rattle.rules.specs.Tables.{chunk_of}
use Rattle.rules.proofs.Unique.{unique}
use Rattle.chunk_fault.specs.Steps.{failed_to}
use Rattle.chunk_fault.specs.contracts.fail_in as fail_in_contract

-- what a caller learns: its two equations
abbrev Learnt : Table → (chunk : ℕ) → (out : Result (Unit {0}) Refused) (left : Table) → Type 0
Learnt t chunk out left = (out ≡ ruled (fail_refusals (chunk_of t chunk).state) tt) × (left ≡ failed_to chunk t)

-- they are all that its contract states
fail_in_states : {M : Type 1} {𝓤 : Ura M} (𝓛 : Logic 𝓤) (at_mem : Memory → SProp 𝓤) (run : Routine → Fun 𝓤)
    (κs : Lfts 1) (a : Args fail_in_contract.signature κs) (out : Result (Unit {0}) Refused) (end : AtExit fail_in_contract.ended κs)
    → (fail_in_contract.clauses 𝓛 at_mem run κs a).ensures tt out end ≡ fact 𝓤 (Learnt a.0.now a.1.0 out end.0.now)
fail_in_states 𝓛 at_mem run κs a out end = refl

fail_in-unique : (t : Table) (chunk : ℕ) (x y : Result (Unit {0}) Refused) (left right : Table) → Learnt t chunk x left → Learnt t chunk y right → (x ≡ y) × (left ≡ right)
fail_in-unique t chunk x y left right p q = (unique p.0 q.0, unique p.1 q.1)

-- where it is granted this is what rules' step leaves
fail_in_effect : (t : Table) (chunk : ℕ) → code_of (fail_refusals (chunk_of t chunk).state) ≡ 0 → failed_to chunk t ≡ (fail_rule t chunk 0 0).effect.table
fail_in_effect t chunk h = rw h refl
