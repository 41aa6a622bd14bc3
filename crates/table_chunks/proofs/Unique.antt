-- Each public function's promise determines its answer, or the table that it leaves
use Prim.Native.Nat.{ℕ}
use mathlib.Core.Path.{◌≡◌, refl}
use seplogic.Ra.Ura.{Ura}
use lib.ListN.{get_or}
use base.Logic.{SProp}
use prog.Memory.{Memory}
use prog.Routine.{Routine}
use types.Logic.{Logic}
use contract.Monad.{Fun, fact}
use contract.Lifetimes.{Lfts}
use denote.Triple.Entry.{Args}
use denote.Triple.Clauses.{AtExit}
use Rattle.rules.specs.Tables.{with_chunk}
use Rattle.rules.specs.Zero.{zero_chunk}
use Rattle.rules.specs.declared.Chunk.{Chunk}
use Rattle.rules.specs.declared.Table.{Table}
use Rattle.rules.proofs.Unique.{unique}
use Rattle.table_chunks.specs.contracts.chunk_in as chunk_in_contract
use Rattle.table_chunks.specs.contracts.put_chunk as put_chunk_contract

-- what a caller of each learns
abbrev Read : Table → (i : ℕ) → (out : Chunk) → Type 0
Read t i out = out ≡ get_or t.chunks i zero_chunk

abbrev Left : Table → (i : ℕ) (x : Chunk) → (left : Table) → Type 0
Left t i x left = left ≡ with_chunk t i x

module _ {M : Type 1} {𝓤 : Ura M} (𝓛 : Logic 𝓤) (at_mem : Memory → SProp 𝓤) (run : Routine → Fun 𝓤) (κs : Lfts 1) where
  -- it is all that the contract states
  chunk_in_states : (a : Args chunk_in_contract.signature κs) (out : Chunk) (end : AtExit chunk_in_contract.ended κs)
      → (chunk_in_contract.clauses 𝓛 at_mem run κs a).ensures tt out end ≡ fact 𝓤 (Read a.0.now a.1.0 out)
  chunk_in_states a out end = refl

  put_chunk_states : (a : Args put_chunk_contract.signature κs) (out : Unit {0}) (end : AtExit put_chunk_contract.ended κs)
      → (put_chunk_contract.clauses 𝓛 at_mem run κs a).ensures tt out end ≡ fact 𝓤 (Left a.0.now a.1.0 a.1.1.0 end.0.now)
  put_chunk_states a out end = refl

chunk_in-unique : (t : Table) (i : ℕ) (x y : Chunk) → Read t i x → Read t i y → x ≡ y
chunk_in-unique t i x y = unique

put_chunk-unique : (t : Table) (i : ℕ) (x : Chunk) (left right : Table) → Left t i x left → Left t i x right → left ≡ right
put_chunk-unique t i x left right = unique
