-- The copies of a block of a table, and the table after an epoch change
use Rattle.std.specs.Prelude.{ℕ, List, get_or, eqb, if◌then◌else◌}
use Rattle.rules.specs.declared.Copy.{Copy}
use Rattle.rules.specs.declared.Table.{Table}
use Rattle.rules.specs.declared.Epoch.{Epoch}
use Rattle.rules.specs.Built.{copy_with}
use Rattle.rules.specs.Codes.{code_of}
use Rattle.rules.specs.Events.{settled_in, renewed, epoch_refusals}
use Rattle.rules.specs.Limits.{chunk_limit}
use Rattle.rules.specs.Tables.{set_of, with_records, with_chunks, with_epoch}
use Rattle.rules.specs.Words.{each, numbers}
use Rattle.rules.specs.Zero.{◌among◌, zero_chunk, zero_record}
use Rattle.table_records.specs.Numbers.{record_number}

-- what is read beyond an array's end is zero
abbrev pub copy_at : Table → (block chunk : ℕ) → Copy
copy_at t b c = copy_with (c among set_of t.creation b) (get_or t.chunks c zero_chunk).lost (get_or t.records (record_number c b) zero_record)

abbrev pub copies_at : Table → (block : ℕ) → List Copy
copies_at t b = each (copy_at t b) (numbers chunk_limit)

-- ---- the event: what rules' epoch_rule leaves, where the epoch that begins is next
abbrev pub changed : (next : Epoch) → Table → Table
changed next t =
    with_epoch (with_chunks (with_records t (settled_in t.creation t.chunks t.records)) (each (renewed t.creation next t.chunks) (numbers chunk_limit))) next

abbrev pub changed_to : (next : Epoch) → Table → Table
changed_to next t = if eqb (code_of (epoch_refusals t.creation t.epoch t.chunks)) 0 then changed next t else t
