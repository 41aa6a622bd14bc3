-- Each public function's promise determines its answer, and `draw`'s also the keeper that it leaves
use Prim.Native.Nat.{ℕ}
use mathlib.Core.Path.{◌≡◌, refl}
use seplogic.Ra.Ura.{Ura}
use base.Logic.{SProp}
use prog.Memory.{Memory}
use prog.Routine.{Routine}
use types.Logic.{Logic}
use contract.Monad.{Fun, fact}
use contract.Lifetimes.{Lfts}
use denote.Triple.Entry.{Args}
use denote.Triple.Clauses.{AtExit}
use Rattle.rules.proofs.Unique.{unique, Determined}
use Rattle.std.specs.Prelude.{Result}
use Rattle.rules.specs.declared.Refused.{Refused}
use Rattle.rules.specs.declared.Timestamp.{Timestamp}
use Rattle.host_keeper.specs.declared.Keeper.{Keeper}
use Rattle.host_keeper.specs.Keeper.{handed, kept}
use Rattle.host_keeper.specs.contracts.draw as draw_contract
use Rattle.host_keeper.proofs.draw_from.Reads as draw_from_contract

-- what a caller of `draw` learns: its two equations
abbrev Learnt : Keeper → (clock : ℕ) → (out : Result Timestamp Refused) (left : Keeper) → Type 0
Learnt k clock out left = (out ≡ handed k clock) × (left ≡ kept k clock)

-- they are all that its contract states
draw_states : {M : Type 1} {𝓤 : Ura M} (𝓛 : Logic 𝓤) (at_mem : Memory → SProp 𝓤) (run : Routine → Fun 𝓤)
    (κs : Lfts 1) (a : Args draw_contract.signature κs) (out : Result Timestamp Refused) (end : AtExit draw_contract.ended κs)
    → (draw_contract.clauses 𝓛 at_mem run κs a).ensures tt out end ≡ fact 𝓤 (Learnt a.0.now a.1.0 out end.0.now)
draw_states 𝓛 at_mem run κs a out end = refl

draw-unique : (k : Keeper) (clock : ℕ) (x y : Result Timestamp Refused) (left right : Keeper) → Learnt k clock x left → Learnt k clock y right → (x ≡ y) × (left ≡ right)
draw-unique k clock x y left right p q = (unique p.0 q.0, unique p.1 q.1)

draw_from-unique : Determined draw_from_contract.Learnt
draw_from-unique κs a x y s u = unique
