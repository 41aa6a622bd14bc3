-- One event that touches one host, one chunk, one record and the network, on any table: where they stand, what it leaves of them,
-- and the table and the outcome after it. Beyond an array's end there is zero, and nothing is stored
use Rattle.std.specs.Prelude.{ℕ, ltb, get_or, set, if◌then◌else◌, List, None, Option, Some, Result, Ok, Err}
use Rattle.rules.specs.declared.Message.{Message}
use Rattle.rules.specs.declared.Refused.{Refused}
use Rattle.rules.specs.declared.Set.{Set}
use Rattle.rules.specs.declared.Creation.{Creation}
use Rattle.rules.specs.declared.Table.{Table}
use Rattle.rules.specs.declared.Event.{Event}
use Rattle.rules.specs.Events.{Effect}
use Rattle.rules.specs.Limits.{block_limit}
use Rattle.rules.specs.Network.{free_places, removed}
use Rattle.rules.specs.Tables.{set_of, slot_of, with_host, with_chunk, with_records, with_places}
use Rattle.rules.specs.Zero.{zero_set, zero_record, zero_chunk, zero_host}
use Rattle.network_places.specs.Sending.{sent_all}
use Rattle.event_operands.specs.declared.Step.{Step}
use Rattle.event_operands.specs.Steps.{step_named}
use Rattle.event_operands.specs.Address.{place_at, host_at, chunk_at, block_at}
use Rattle.table_records.specs.Numbers.{record_number}
use Rattle.event_parts.specs.declared.Parts.{Parts}
use Rattle.event_parts.specs.declared.Acted.{Acted}
use Rattle.event_parts.specs.Acts.{granting, acted}
use Rattle.event_lent.specs.declared.Here.{Here}

-- ---- whom it is about

abbrev pub set_in : Creation → (block : ℕ) → Set
set_in k b = if ltb b block_limit then set_of k b else zero_set

-- "4 deliver (place), 5 drop (place)": the message goes; any other event removes none

abbrev pub removed_by : Result Step Refused → (place : ℕ) → Option ℕ
removed_by (Ok Step.Deliver) place = Some place
removed_by (Ok Step.Drop) place = Some place
removed_by _ place = None

abbrev pub removed_at : Event → Option ℕ
removed_at e = removed_by (step_named e.kind) e.a

unfoldable pub here_in : Table → Event → Here
here_in t e =
    let s = slot_of t.places (place_at e) in
    let h = host_at e s in
    let c = chunk_at e s in
    let b = block_at e s (get_or t.hosts h zero_host) in
    record { slot = s; host = h; chunk = c; block = b; «record» = record_number c b; place = removed_at e }

-- ---- the parts

unfoldable pub parts_in : Table → Here → Parts
parts_in t x = record {
  creation = t.creation;
  epoch = t.epoch;
  slot = x.slot;
  host = get_or t.hosts x.host zero_host;
  chunk = get_or t.chunks x.chunk zero_chunk;
  «set» = set_in t.creation x.block;
  held = get_or t.records x.«record» zero_record;
  free = free_places t.places;
}

-- ---- what is stored back

-- the network without a message, if any
abbrev pub without : List (Option Message) → (place : Option ℕ) → List (Option Message)
without places None = places
without places (Some p) = removed places p

-- the parts, and the network without the message that is delivered or dropped
unfoldable pub keeping : Table → Here → Acted → Table
keeping t x a =
    with_places (with_records (with_chunk (with_host t x.host a.host) x.chunk a.chunk) (set t.records x.«record» a.held))
    (without t.places x.place)

-- .. and its new messages
unfoldable pub storing : Table → Here → Acted → Table
storing t x a = with_places (keeping t x a) (sent_all (keeping t x a).places a.messages)

-- ---- "new table, outcome", or why it is refused

unfoldable pub acted_on : Table → Event → Result Effect Refused
acted_on t e =
    let x = here_in t e in
    granting (λ a. record { table = storing t x a; outcome = a.outcome }) (acted e (parts_in t x))

-- the table after it: where it is refused the "same table"
abbrev pub left_of : Table → Result Effect Refused → Table
left_of t (Ok x) = x.table
left_of t (Err why) = t
