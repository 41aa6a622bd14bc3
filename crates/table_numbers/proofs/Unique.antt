-- Each public function's promise determines its answer, or the table that it leaves
use mathlib.Core.Path.{◌≡◌, refl}
use seplogic.Ra.Ura.{Ura}
use base.Logic.{SProp}
use prog.Memory.{Memory}
use prog.Routine.{Routine}
use types.Logic.{Logic}
use contract.Monad.{Fun, fact}
use contract.Lifetimes.{Lfts}
use denote.Triple.Entry.{Args}
use denote.Triple.Clauses.{AtExit}
use Rattle.rules.specs.Tables.{with_epoch}
use Rattle.rules.specs.declared.Creation.{Creation}
use Rattle.rules.specs.declared.Epoch.{Epoch}
use Rattle.rules.specs.declared.Table.{Table}
use Rattle.rules.proofs.Unique.{unique}
use Rattle.table_numbers.specs.contracts.creation_in as creation_in_contract
use Rattle.table_numbers.specs.contracts.epoch_in as epoch_in_contract
use Rattle.table_numbers.specs.contracts.put_epoch as put_epoch_contract

-- what a caller of each learns
abbrev CreationRead : Table → (out : Creation) → Type 0
CreationRead t out = out ≡ t.creation

abbrev EpochRead : Table → (out : Epoch) → Type 0
EpochRead t out = out ≡ t.epoch

abbrev Left : Table → (x : Epoch) → (left : Table) → Type 0
Left t x left = left ≡ with_epoch t x

module _ {M : Type 1} {𝓤 : Ura M} (𝓛 : Logic 𝓤) (at_mem : Memory → SProp 𝓤) (run : Routine → Fun 𝓤) (κs : Lfts 1) where
  -- it is all that the contract states
  creation_in_states : (a : Args creation_in_contract.signature κs) (out : Creation) (end : AtExit creation_in_contract.ended κs)
      → (creation_in_contract.clauses 𝓛 at_mem run κs a).ensures tt out end ≡ fact 𝓤 (CreationRead a.0.now out)
  creation_in_states a out end = refl

  epoch_in_states : (a : Args epoch_in_contract.signature κs) (out : Epoch) (end : AtExit epoch_in_contract.ended κs)
      → (epoch_in_contract.clauses 𝓛 at_mem run κs a).ensures tt out end ≡ fact 𝓤 (EpochRead a.0.now out)
  epoch_in_states a out end = refl

  put_epoch_states : (a : Args put_epoch_contract.signature κs) (out : Unit {0}) (end : AtExit put_epoch_contract.ended κs)
      → (put_epoch_contract.clauses 𝓛 at_mem run κs a).ensures tt out end ≡ fact 𝓤 (Left a.0.now a.1.0 end.0.now)
  put_epoch_states a out end = refl

creation_in-unique : (t : Table) (x y : Creation) → CreationRead t x → CreationRead t y → x ≡ y
creation_in-unique t x y = unique

epoch_in-unique : (t : Table) (x y : Epoch) → EpochRead t x → EpochRead t y → x ≡ y
epoch_in-unique t x y = unique

put_epoch-unique : (t : Table) (x : Epoch) (left right : Table) → Left t x left → Left t x right → left ≡ right
put_epoch-unique t x left right = unique
