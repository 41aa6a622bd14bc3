-- Each public function's promise determines its answer, or the table that it leaves
use Prim.Native.Nat.{ℕ}
use mathlib.Core.Path.{◌≡◌, refl}
use seplogic.Ra.Ura.{Ura}
use lib.ListN.{get_or}
use base.Logic.{SProp}
use prog.Memory.{Memory}
use prog.Routine.{Routine}
use types.Logic.{Logic}
use contract.Monad.{Fun, fact}
use contract.Lifetimes.{Lfts}
use denote.Triple.Entry.{Args}
use denote.Triple.Clauses.{AtExit}
use Rattle.rules.specs.Tables.{with_host}
use Rattle.rules.specs.Zero.{zero_host}
use Rattle.rules.specs.declared.Host.{Host}
use Rattle.rules.specs.declared.Table.{Table}
use Rattle.rules.proofs.Unique.{unique}
use Rattle.table_hosts.specs.contracts.host_in as host_in_contract
use Rattle.table_hosts.specs.contracts.put_host as put_host_contract

-- what a caller of each learns
abbrev Read : Table → (i : ℕ) → (out : Host) → Type 0
Read t i out = out ≡ get_or t.hosts i zero_host

abbrev Left : Table → (i : ℕ) (x : Host) → (left : Table) → Type 0
Left t i x left = left ≡ with_host t i x

module _ {M : Type 1} {𝓤 : Ura M} (𝓛 : Logic 𝓤) (at_mem : Memory → SProp 𝓤) (run : Routine → Fun 𝓤) (κs : Lfts 1) where
  -- it is all that the contract states
  host_in_states : (a : Args host_in_contract.signature κs) (out : Host) (end : AtExit host_in_contract.ended κs)
      → (host_in_contract.clauses 𝓛 at_mem run κs a).ensures tt out end ≡ fact 𝓤 (Read a.0.now a.1.0 out)
  host_in_states a out end = refl

  put_host_states : (a : Args put_host_contract.signature κs) (out : Unit {0}) (end : AtExit put_host_contract.ended κs)
      → (put_host_contract.clauses 𝓛 at_mem run κs a).ensures tt out end ≡ fact 𝓤 (Left a.0.now a.1.0 a.1.1.0 end.0.now)
  put_host_states a out end = refl

host_in-unique : (t : Table) (i : ℕ) (x y : Host) → Read t i x → Read t i y → x ≡ y
host_in-unique t i x y = unique

put_host-unique : (t : Table) (i : ℕ) (x : Host) (left right : Table) → Left t i x left → Left t i x right → left ≡ right
put_host-unique t i x left right = unique
