-- Document 01, "Events": for each event its refusals in their order, and its effect; the events by their numbers; the step
use Rattle.std.specs.Prelude.{ℕ, Bool, not, ◌&&◌, List, [], get_or, eqb, if◌then◌else◌, None, Option, Some}
use Rattle.rules.specs.Types.{Epoch, Set, Creation, Record, State, Chunk, Action, Operation, Host, Header, Message, Table, Arrived, Copy, Event, Operands, Outcome, Answer, Reply}
use Rattle.rules.specs.declared.Operand.TheVariants.{Unknown as unknown, Unused as unused, Host as a_host, Chunk as a_chunk, Block as a_block, Place as a_place, Clock as a_clock, Now as a_time, Value as a_value}
use Rattle.rules.specs.Built.{blank, copy_with, operation_of}
use Rattle.rules.specs.Chunks.{run_refusals, ran, fail_refusals, failed, emptied, recover_refusals, recovered, take_lease_refusals, lease_taken, give_lease_refusals, lease_given, overdue_refusals, overdue, arrives}
use Rattle.rules.specs.Codes.{Row, ◌gives◌⨾◌, granted, code_of}
use Rattle.rules.specs.Formed.{well_formed}
use Rattle.rules.specs.Hosts.{front, intake_refusals, appended, start_refusals, opening_to, opening, started, finish_refusals, closing_to, closing, finish_outcome, finished, timeout_refusals, timed_out, working_refusals, refreshed, stopped, hears}
use Rattle.rules.specs.Kinds.{is_failed}
use Rattle.rules.specs.Limits.{chunk_limit, block_limit, greatest_clock}
use Rattle.rules.specs.Messages.{headed, header_of, sort_of, asking, is_for_chunk}
use Rattle.rules.specs.Network.{free_places, removed, how_many, sent_to_each, replied, place_refusals, chunks_of}
use Rattle.rules.specs.Operands.{◌∥◌∥◌, all_in_range}
use Rattle.rules.specs.Settlement.{settled}
use Rattle.rules.specs.Tables.{is_chunk, is_block, set_of, host_of, chunk_of, at, record_of, records_by, slot_of, with_epoch, with_chunks, with_records, with_places, with_host, with_chunk, with_record}
use Rattle.rules.specs.Timestamps.{stamp, next}
use Rattle.rules.specs.Words.{Numbered, ◌⇒◌⨾◌, under, each, every, some, numbers}
use Rattle.rules.specs.Zero.{◌among◌, no_record, no_chunk, no_copy}

-- what a granted event gives: the new table and the outcome
pub record Effect : Type 0 where
  pub table : Table
  pub outcome : Outcome

-- an event's rule: its own refusals, and what it does where nothing is refused
pub record Rule : Type 0 where
  pub refusals : List Row
  pub effect : Effect

abbrev pub quietly : Table → Effect
quietly t = record { table = t; outcome = Outcome.None }

-- code 0: "new table, outcome"; any other: "same table, zeros"
abbrev pub done : Effect → Answer
done x = record { table = x.table; code = 0; outcome = x.outcome }

abbrev pub refused : Table → (code : ℕ) → Answer
refused t k = record { table = t; code = k; outcome = Outcome.None }

-- the set of the block that a host's front operation is about
abbrev pub holders_of : Creation → Host → Set
holders_of k h = set_of k (front h).block

-- "all its waiting entries .. go": the records, with those of one chunk emptied
abbrev pub without_waiting : List Record → (chunk : ℕ) → List Record
without_waiting records chunk =
    records_by (λ c b.
    let r = get_or records (at c b) no_record in
    if eqb c chunk then emptied r else r)

module _ (t : Table) where
  -- ---- hosts: intake

  abbrev pub intake_rule : (host : ℕ) → Operation → Rule
  intake_rule host o = record {
    refusals = intake_refusals (host_of t host);
    effect = quietly (with_host t host (appended (host_of t host) o));
  }

  -- "1 read (host, block)"
  abbrev pub read_rule : (host block c : ℕ) → Rule
  read_rule host block _ = intake_rule host (operation_of block Action.Read)

  -- "2 write (host, block, value)"
  abbrev pub write_rule : (host block value : ℕ) → Rule
  write_rule host block value = intake_rule host (operation_of block (Action.Write value))

  -- ---- hosts: start and finish

  -- "3 start (host, clock from 1, copy)"
  abbrev pub start_rule : (host clock copy : ℕ) → Rule
  start_rule host clock copy =
      let h = host_of t host in
      let o = front h in
      let to = opening_to o.action copy (holders_of t.creation h) in
      let now = stamp clock host in
      record {
        refusals = start_refusals h clock copy (holders_of t.creation h) (free_places t.places) (how_many to);
        effect = quietly (with_places (with_host t host (started h now clock to))
            (sent_to_each t.places to (λ chunk. asking (headed host chunk o.block now) h.epoch (opening o.action))));
      }

  -- "6 finish (host)"
  abbrev pub finish_rule : (host b c : ℕ) → Rule
  finish_rule host _ _ =
      let h = host_of t host in
      let o = front h in
      let to = closing_to o.action (holders_of t.creation h) in
      record {
        refusals = finish_refusals h (free_places t.places) (how_many to);
        effect = record {
          table = with_places (with_host t host (finished h))
              (sent_to_each t.places to (λ chunk. asking (headed host chunk o.block h.attempt.timestamp) h.epoch (closing h.attempt.okay)));
          outcome = finish_outcome host h;
        };
      }

  -- ---- hosts: the other events of one host

  abbrev pub host_rule : (host : ℕ) → (Host → List Row) → (Host → Host) → Rule
  host_rule host refusals change = record {
    refusals = refusals (host_of t host);
    effect = quietly (with_host t host (change (host_of t host)));
  }

  -- "7 timeout (host)"
  abbrev pub timeout_rule : (host b c : ℕ) → Rule
  timeout_rule host _ _ = host_rule host timeout_refusals timed_out

  -- "8 refresh (host)"
  abbrev pub refresh_rule : (host b c : ℕ) → Rule
  refresh_rule host _ _ = host_rule host working_refusals (λ h. refreshed h t.epoch)

  -- "10 stop (host)"
  abbrev pub stop_rule : (host b c : ℕ) → Rule
  stop_rule host _ _ = host_rule host working_refusals stopped

  -- ---- the network

  -- what a message or a run leaves: the chunk, its record, and the reply, if any, in the network
  abbrev pub with_arrived : (chunk block : ℕ) → Arrived → Table
  with_arrived c b a = with_places (with_record (with_chunk t c a.chunk) c b a.held) (replied t.places a.reply)

  -- a request at its chunk, and its reply, if any
  abbrev pub chunk_takes : Header → Message → Table
  chunk_takes header m =
      let c = header.chunk in
      let b = header.block in
      with_arrived c b (arrives t.creation.blocks (chunk_of t c) (record_of t c b) m)

  -- a reply at its host
  abbrev pub host_takes : Header → Message → Table
  host_takes header m = with_host t header.host (hears (host_of t header.host) m)

  abbrev pub takes : Option Message → Table
  takes None = t
  takes (Some m) = if is_for_chunk (sort_of m) then chunk_takes (header_of m) m else host_takes (header_of m) m

module _ (t : Table) where
  abbrev pub place_rule : (place : ℕ) → Table → Rule
  place_rule place after = record {
    refusals = place_refusals (slot_of t.places place);
    effect = quietly after;
  }

  -- "4 deliver (place)"
  abbrev pub deliver_rule : (place b c : ℕ) → Rule
  deliver_rule place _ _ = place_rule place (takes (with_places t (removed t.places place)) (slot_of t.places place))

  -- "5 drop (place)"
  abbrev pub drop_rule : (place b c : ℕ) → Rule
  drop_rule place _ _ = place_rule place (with_places t (removed t.places place))

  -- ---- chunks

  -- "9 run (chunk, block)"
  abbrev pub run_rule : (chunk block c : ℕ) → Rule
  run_rule chunk block _ =
      let c = chunk_of t chunk in
      let r = record_of t chunk block in
      record {
        refusals = run_refusals c.state r.waiting (free_places t.places);
        effect = quietly (with_arrived t chunk block (ran chunk block c r));
      }

  -- "11 fail (chunk)"
  abbrev pub fail_rule : (chunk b c : ℕ) → Rule
  fail_rule chunk _ _ = record {
    refusals = fail_refusals (chunk_of t chunk).state;
    effect = quietly (with_records (with_chunk t chunk (failed (chunk_of t chunk))) (without_waiting t.records chunk));
  }

  abbrev pub chunk_rule : (chunk : ℕ) → (Chunk → List Row) → (Chunk → Chunk) → Rule
  chunk_rule chunk refusals change = record {
    refusals = refusals (chunk_of t chunk);
    effect = quietly (with_chunk t chunk (change (chunk_of t chunk)));
  }

  -- "12 recover"
  abbrev pub recover_rule : (chunk b c : ℕ) → Rule
  recover_rule chunk _ _ = chunk_rule chunk (λ c. recover_refusals c.state) recovered

  -- "13 take lease"
  abbrev pub take_lease_rule : (chunk b c : ℕ) → Rule
  take_lease_rule chunk _ _ = chunk_rule chunk (λ c. take_lease_refusals c.state) lease_taken

  -- "14 give lease"
  abbrev pub give_lease_rule : (chunk b c : ℕ) → Rule
  give_lease_rule chunk _ _ = chunk_rule chunk (λ c. give_lease_refusals c.state c.lost) lease_given

  -- "16 overdue (chunk, block, now 0 to 4,294,967,295)"
  abbrev pub overdue_rule : (chunk block now : ℕ) → Rule
  overdue_rule chunk block now =
      chunk_rule chunk (λ c. overdue_refusals c.state (record_of t chunk block).waiting now t.creation.age) (λ c. overdue c block)

-- ---- the epoch change

-- a block's copies, one a chunk
abbrev pub copy_in : Creation → List Chunk → List Record → (block chunk : ℕ) → Copy
copy_in k chunks records b c = copy_with (c among set_of k b) (get_or chunks c no_chunk).lost (get_or records (at c b) no_record)

abbrev pub copies_in : Creation → List Chunk → List Record → (block : ℕ) → List Copy
copies_in k chunks records b = each (copy_in k chunks records b) (numbers chunk_limit)

abbrev pub copies_of : Table → (block : ℕ) → List Copy
copies_of t = copies_in t.creation t.chunks t.records

abbrev pub settled_in : Creation → List Chunk → List Record → List Record
settled_in k chunks records = records_by (λ c b. (get_or (settled (copies_in k chunks records b)) c no_copy).held)

-- "reconciliation sets and lost marks cleared, the epoch grows by one in every chunk, and every chunk is normal"
abbrev pub anew : (next : Epoch) → Chunk
anew next = blank State.Normal next

abbrev pub renewed : Creation → (next : Epoch) → List Chunk → (chunk : ℕ) → Chunk
renewed k next chunks c = if is_chunk k c then anew next else get_or chunks c no_chunk

abbrev pub epoch_changed : Table → Table
epoch_changed t =
    let later = next t.epoch in
    with_epoch (with_chunks (with_records t
    (settled_in t.creation t.chunks t.records))
    (each (renewed t.creation later t.chunks) (numbers chunk_limit)))
    later

-- "every chunk of its set is lost"
unfoldable pub all_lost : Set → List Chunk → Bool
all_lost s chunks = every (λ c. (get_or chunks c no_chunk).lost) (chunks_of s)

-- "15 epoch change: no chunk failed (2), then 7, then 6"
abbrev pub epoch_refusals : Creation → Epoch → List Chunk → List Row
epoch_refusals k epoch chunks =
    some (λ c. is_failed (get_or chunks c no_chunk).state) (numbers chunk_limit) gives 2 ⨾
    eqb epoch.0 greatest_clock gives 7 ⨾
    some (λ b. is_block k b && all_lost (set_of k b) chunks) (numbers block_limit) gives 6 ⨾
    granted

abbrev pub epoch_rule : Table → (a b c : ℕ) → Rule
epoch_rule t _ _ _ = record { refusals = epoch_refusals t.creation t.epoch t.chunks; effect = quietly (epoch_changed t) }

-- ---- the events by their numbers

-- a kind of event: what its operands are, and its rule
pub record EventKind : Type 0 where
  pub operands : Operands
  pub rule : Table → (a b c : ℕ) → Rule

infix 6 ◌does◌
abbrev pub ◌does◌ : Operands → (Table → (a b c : ℕ) → Rule) → EventKind
operands does rule = record { operands = operands; rule = rule }

abbrev pub event_kinds : List (Numbered EventKind)
event_kinds =
    1 ⇒ a_host ∥ a_block ∥ unused does read_rule ⨾  -- "read (host, block)"
    2 ⇒ a_host ∥ a_block ∥ a_value does write_rule ⨾  -- "write (host, block, value)"
    3 ⇒ a_host ∥ a_clock ∥ a_chunk does start_rule ⨾  -- "start (host, clock from 1, copy)": "the copy is a chunk's number"
    4 ⇒ a_place ∥ unused ∥ unused does deliver_rule ⨾  -- "deliver (place)"
    5 ⇒ a_place ∥ unused ∥ unused does drop_rule ⨾  -- "drop (place)"
    6 ⇒ a_host ∥ unused ∥ unused does finish_rule ⨾  -- "finish (host)"
    7 ⇒ a_host ∥ unused ∥ unused does timeout_rule ⨾  -- "timeout (host)"
    8 ⇒ a_host ∥ unused ∥ unused does refresh_rule ⨾  -- "refresh (host)"
    9 ⇒ a_chunk ∥ a_block ∥ unused does run_rule ⨾  -- "run (chunk, block)"
    10 ⇒ a_host ∥ unused ∥ unused does stop_rule ⨾  -- "stop (host)"
    11 ⇒ a_chunk ∥ unused ∥ unused does fail_rule ⨾  -- "fail (chunk)"
    12 ⇒ a_chunk ∥ unused ∥ unused does recover_rule ⨾  -- "recover"
    13 ⇒ a_chunk ∥ unused ∥ unused does take_lease_rule ⨾  -- "take lease"
    14 ⇒ a_chunk ∥ unused ∥ unused does give_lease_rule ⨾  -- "give lease"
    15 ⇒ unused ∥ unused ∥ unused does epoch_rule ⨾  -- "epoch change"
    16 ⇒ a_chunk ∥ a_block ∥ a_time does overdue_rule ⨾  -- "overdue (chunk, block, now 0 to 4,294,967,295)"
    []

-- no number is in range for an "unknown kind"
abbrev pub unknown_kind : EventKind
unknown_kind = unknown ∥ unknown ∥ unknown does (λ t _ _ _. record { refusals = granted; effect = quietly t })

unfoldable pub kind_of : (number : ℕ) → EventKind
kind_of = under unknown_kind event_kinds

unfoldable pub ranges : Creation → Event → Bool
ranges k e = all_in_range k (kind_of e.kind).operands e.a e.b e.c

unfoldable pub rule_of : Table → Event → Rule
rule_of t e = (kind_of e.kind).rule t e.a e.b e.c

-- ---- the step

-- "Code 8 is looked for first, then ranges (1), then the order in each event"
unfoldable pub rows : Table → Event → List Row
rows t e =
    not (well_formed t) gives 8 ⨾
    not (ranges t.creation e) gives 1 ⨾
    (rule_of t e).refusals

unfoldable pub step : Table → Event → Answer
step t e =
    let code = code_of (rows t e) in
    if eqb code 0 then done (rule_of t e).effect else refused t code

-- an answer without its table
abbrev pub reply_of : Answer → Reply
reply_of a = record { code = a.code; outcome = a.outcome }
