-- A chunk of a table fails: its records emptied one after the other. proofs/Laws.antt proves that this is the rules'
use Rattle.std.specs.Prelude.{ℕ, get_or, set, eqb, if◌then◌else◌}
use Rattle.rules.specs.declared.Table.{Table}
use Rattle.rules.specs.Chunks.{fail_refusals, failed, emptied}
use Rattle.rules.specs.Codes.{code_of}
use Rattle.rules.specs.Events.{without_waiting}
use Rattle.rules.specs.Tables.{chunk_of, with_chunk, with_records}
use Rattle.rules.specs.Zero.{zero_record}
use Rattle.table_records.specs.Numbers.{record_number}

-- the table without what waits in the chunk at block b
abbrev pub with_emptied : (chunk : ℕ) → Table → (block : ℕ) → Table
with_emptied chunk t b = with_records t (set t.records (record_number chunk b) (emptied (get_or t.records (record_number chunk b) zero_record)))

-- what rules' fail_rule leaves
abbrev pub failed_to : (chunk : ℕ) → Table → Table
failed_to chunk t =
    if eqb (code_of (fail_refusals (chunk_of t chunk).state)) 0 then with_records (with_chunk t chunk (failed (chunk_of t chunk))) (without_waiting t.records chunk) else t
