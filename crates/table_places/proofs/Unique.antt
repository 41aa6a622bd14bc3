-- Each public function's promise determines its answer, or the table that it leaves
use Rattle.std.specs.Prelude.{Option}
use Prim.Native.Nat.{ℕ}
use mathlib.Core.Path.{◌≡◌, refl}
use seplogic.Ra.Ura.{Ura}
use lib.ListN.{get_or}
use base.Logic.{SProp}
use prog.Memory.{Memory}
use prog.Routine.{Routine}
use types.Logic.{Logic}
use contract.Monad.{Fun, fact}
use contract.Lifetimes.{Lfts}
use denote.Triple.Entry.{Args}
use denote.Triple.Clauses.{AtExit}
use Rattle.rules.specs.declared.Message.{Message}
use Rattle.rules.specs.Network.{free_places, removed, replied}
use Rattle.rules.specs.Tables.{with_places}
use Rattle.rules.specs.Zero.{zero_place}
use Rattle.rules.specs.declared.Table.{Table}
use Rattle.rules.proofs.Unique.{unique}
use Rattle.table_places.specs.contracts.free_in as free_in_contract
use Rattle.table_places.specs.contracts.place_in as place_in_contract
use Rattle.table_places.specs.contracts.remove_in as remove_in_contract
use Rattle.table_places.specs.contracts.send_in as send_in_contract

-- what a caller of each learns
abbrev Read : Table → (i : ℕ) → (out : Option Message) → Type 0
Read t i out = out ≡ get_or t.places i zero_place

abbrev Removed : Table → (i : ℕ) → (left : Table) → Type 0
Removed t i left = left ≡ with_places t (removed t.places i)

abbrev Free : Table → (out : ℕ) → Type 0
Free t out = out ≡ free_places t.places

abbrev Sent : Table → (s : Option Message) → (left : Table) → Type 0
Sent t s left = left ≡ with_places t (replied t.places s)

module _ {M : Type 1} {𝓤 : Ura M} (𝓛 : Logic 𝓤) (at_mem : Memory → SProp 𝓤) (run : Routine → Fun 𝓤) (κs : Lfts 1) where
  -- it is all that the contract states
  place_in_states : (a : Args place_in_contract.signature κs) (out : Option Message) (end : AtExit place_in_contract.ended κs)
      → (place_in_contract.clauses 𝓛 at_mem run κs a).ensures tt out end ≡ fact 𝓤 (Read a.0.now a.1.0 out)
  place_in_states a out end = refl

  remove_in_states : (a : Args remove_in_contract.signature κs) (out : Unit {0}) (end : AtExit remove_in_contract.ended κs)
      → (remove_in_contract.clauses 𝓛 at_mem run κs a).ensures tt out end ≡ fact 𝓤 (Removed a.0.now a.1.0 end.0.now)
  remove_in_states a out end = refl

  free_in_states : (a : Args free_in_contract.signature κs) (out : ℕ) (end : AtExit free_in_contract.ended κs)
      → (free_in_contract.clauses 𝓛 at_mem run κs a).ensures tt out end ≡ fact 𝓤 (Free a.0.now out)
  free_in_states a out end = refl

  send_in_states : (a : Args send_in_contract.signature κs) (out : Unit {0}) (end : AtExit send_in_contract.ended κs)
      → (send_in_contract.clauses 𝓛 at_mem run κs a).ensures tt out end ≡ fact 𝓤 (Sent a.0.now a.1.0 end.0.now)
  send_in_states a out end = refl

place_in-unique : (t : Table) (i : ℕ) (x y : Option Message) → Read t i x → Read t i y → x ≡ y
place_in-unique t i x y = unique

remove_in-unique : (t : Table) (i : ℕ) (left right : Table) → Removed t i left → Removed t i right → left ≡ right
remove_in-unique t i left right = unique

free_in-unique : (t : Table) (x y : ℕ) → Free t x → Free t y → x ≡ y
free_in-unique t x y = unique

send_in-unique : (t : Table) (s : Option Message) (left right : Table) → Sent t s left → Sent t s right → left ≡ right
send_in-unique t s left right = unique
