-- Each public function's promise determines its answer, or the table that it leaves
use Prim.Native.Nat.{ℕ}
use mathlib.Core.Path.{◌≡◌, refl}
use seplogic.Ra.Ura.{Ura}
use lib.ListN.{get_or, set}
use base.Logic.{SProp}
use prog.Memory.{Memory}
use prog.Routine.{Routine}
use types.Logic.{Logic}
use contract.Monad.{Fun, fact}
use contract.Lifetimes.{Lfts}
use denote.Triple.Entry.{Args}
use denote.Triple.Clauses.{AtExit}
use Rattle.rules.specs.Tables.{with_records}
use Rattle.rules.specs.Zero.{zero_record}
use Rattle.rules.specs.declared.Record.{Record}
use Rattle.rules.specs.declared.Table.{Table}
use Rattle.rules.proofs.Unique.{unique, Determined}
use Rattle.table_records.proofs.record_number.Reads as record_number_contract
use Rattle.table_records.specs.contracts.record_in as record_in_contract
use Rattle.table_records.specs.contracts.put_record as put_record_contract

-- what a caller of each learns
abbrev Read : Table → (i : ℕ) → (out : Record) → Type 0
Read t i out = out ≡ get_or t.records i zero_record

abbrev Left : Table → (i : ℕ) (x : Record) → (left : Table) → Type 0
Left t i x left = left ≡ with_records t (set t.records i x)

module _ {M : Type 1} {𝓤 : Ura M} (𝓛 : Logic 𝓤) (at_mem : Memory → SProp 𝓤) (run : Routine → Fun 𝓤) (κs : Lfts 1) where
  -- it is all that the contract states
  record_in_states : (a : Args record_in_contract.signature κs) (out : Record) (end : AtExit record_in_contract.ended κs)
      → (record_in_contract.clauses 𝓛 at_mem run κs a).ensures tt out end ≡ fact 𝓤 (Read a.0.now a.1.0 out)
  record_in_states a out end = refl

  put_record_states : (a : Args put_record_contract.signature κs) (out : Unit {0}) (end : AtExit put_record_contract.ended κs)
      → (put_record_contract.clauses 𝓛 at_mem run κs a).ensures tt out end ≡ fact 𝓤 (Left a.0.now a.1.0 a.1.1.0 end.0.now)
  put_record_states a out end = refl

record_number-unique : Determined record_number_contract.Learnt
record_number-unique κs a x y s u = unique

record_in-unique : (t : Table) (i : ℕ) (x y : Record) → Read t i x → Read t i y → x ≡ y
record_in-unique t i x y = unique

put_record-unique : (t : Table) (i : ℕ) (x : Record) (left right : Table) → Left t i x left → Left t i x right → left ≡ right
put_record-unique t i x left right = unique
