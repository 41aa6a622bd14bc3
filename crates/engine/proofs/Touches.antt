-- An event that touches one host, one chunk, one record and the network, on a well-formed table: where they stand in the rules' words,
-- and the table after it
use Rattle.std.specs.Prelude.{Option}
use Prim.Native.Nat.{ℕ}
use mathlib.Core.List.{List}
use Rattle.rules.specs.declared.Message.{Message}
use Rattle.rules.specs.declared.Table.{Table}
use Rattle.rules.specs.declared.Event.{Event}
use Rattle.rules.specs.Events.{Effect}
use Rattle.rules.specs.Network.{free_places}
use Rattle.rules.specs.Tables.{set_of, host_of, chunk_of, record_of, slot_of, with_host, with_chunk, with_record, with_places}
use Rattle.network_places.specs.Sending.{sent_all}
use Rattle.event_operands.specs.Address.{place_at, host_at, chunk_at, block_at}
use Rattle.event_parts.specs.declared.Parts.{Parts}
use Rattle.event_parts.specs.declared.Acted.{Acted}
use Rattle.event_lent.specs.Touches.{removed_at, without}

-- whom it is about
abbrev pub slot_here : Table → Event → Option Message
slot_here t e = slot_of t.places (place_at e)

abbrev pub host_here : Table → Event → ℕ
host_here t e = host_at e (slot_here t e)

abbrev pub chunk_here : Table → Event → ℕ
chunk_here t e = chunk_at e (slot_here t e)

abbrev pub block_here : Table → Event → ℕ
block_here t e = block_at e (slot_here t e) (host_of t (host_here t e))

abbrev pub parts_of : Table → Event → Parts
parts_of t e = record {
  creation = t.creation;
  epoch = t.epoch;
  slot = slot_here t e;
  host = host_of t (host_here t e);
  chunk = chunk_of t (chunk_here t e);
  «set» = set_of t.creation (block_here t e);
  held = record_of t (chunk_here t e) (block_here t e);
  free = free_places t.places;
}

-- the network after it: its message removed, then the new ones sent
abbrev pub mailed : List (Option Message) → Event → (messages : List (Option Message)) → List (Option Message)
mailed places e messages = sent_all (without places (removed_at e)) messages

-- the table after it: what it leaves of the parts, where they stand
abbrev pub stored : Table → Event → Acted → Table
stored t e a =
    with_places (with_record (with_chunk (with_host t (host_here t e) a.host) (chunk_here t e) a.chunk) (chunk_here t e) (block_here t e) a.held)
    (mailed t.places e a.messages)

abbrev pub effect_of : Table → Event → Acted → Effect
effect_of t e a = record { table = stored t e a; outcome = a.outcome }
