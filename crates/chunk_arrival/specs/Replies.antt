-- What a chunk says to a read or a prewrite that it lets wait, or that it refuses
use Rattle.std.specs.Prelude.{if◌then◌else◌, Result, Ok, Err}
use Rattle.rules.specs.declared.Arrived.{Arrived}
use Rattle.rules.specs.declared.Chunk.{Chunk}
use Rattle.rules.specs.declared.Header.{Header}
use Rattle.rules.specs.declared.Kind.{Kind}
use Rattle.rules.specs.declared.Record.{Record}
use Rattle.rules.specs.declared.Refusal.{Refusal}
use Rattle.rules.specs.declared.Sort.{Sort}
use Rattle.rules.specs.Chunks.{answering, refusing, silent}
use Rattle.rules.specs.Kinds.{is_write}

-- the record in which it waits, or why it does not
abbrev pub answered : Chunk → Record → Header → Kind → Result Record Refusal → Arrived
answered c r header kind (Ok now) = if is_write kind then answering c now header Sort.PrewriteReply else silent c now
answered c r header kind (Err why) = refusing c r header why
