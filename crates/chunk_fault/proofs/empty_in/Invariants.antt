-- The chunk's records below block b are emptied
use Rattle.std.proofs.Common.{◌≡◌, ◌≤◌, length}
use Rattle.chunk_fault.proofs.Laws.{table_to}
use Rattle.chunk_fault.proofs.empty_in.Given as goal

abbrev pub invariant-loop-b : goal.invariant-loop-b
invariant-loop-b l = (len : length l.initial.t.records ≡ 128) × (l.b ≤ 16) × (l.t ≡ table_to l.initial.t len l.chunk l.b)
