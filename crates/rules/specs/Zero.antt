-- What zero is for each type: numbers 0, bools false, an enum's first case. Unused places hold it
use Rattle.std.specs.Prelude.{Option}
use Rattle.std.specs.Prelude.{ℕ, ◌*◌, Bool, false, ◌&&◌, not, [], get_or, replicate, eqb, None}
use Rattle.rules.specs.Types.{Set, Creation, Kind, Entry, Waiting, Record, State, Chunk, Action, Operation, Queue, Attempt, Host, Table, Copy, Message}
use Rattle.rules.specs.Built.{creation_of, entry_with, blank, copy_with, operation_of}
use Rattle.rules.specs.Kinds.{is_read, is_normal, is_reading}
use Rattle.rules.specs.Limits.{host_limit, chunk_limit, block_limit, operation_limit, waiting_limit, place_limit}
use Rattle.rules.specs.Timestamps.{never, no_epoch, ◌is◌, ◌same◌}
use Rattle.rules.specs.Words.{none, every, numbers}

-- ---- a set of chunks

abbrev pub zero_set : Set
zero_set = record { chunks = replicate chunk_limit false }

-- chunk c is in the set
infix 40 ◌among◌
abbrev pub ◌among◌ : ℕ → Set → Bool
c among s = get_or s.chunks c false

abbrev pub is_empty : Set → Bool
is_empty s = none (λ c. c among s) (numbers chunk_limit)

-- ---- an entry, a waiting list, a record

abbrev pub zero_entry : Entry
zero_entry = entry_with never 0 no_epoch Kind.Read

abbrev pub is_zero_entry : Entry → Bool
is_zero_entry e = e.timestamp is never && eqb e.sender 0 && e.epoch same no_epoch && is_read e.kind

abbrev pub zero_waiting : Waiting
zero_waiting = record { count = 0; entries = replicate waiting_limit zero_entry }

abbrev pub zero_record : Record
zero_record = record { value = 0; read = never; write = never; waiting = zero_waiting }

abbrev pub is_zero_record : Record → Bool
is_zero_record r =
    eqb r.value 0 && r.read is never && r.write is never && eqb r.waiting.count 0
    && every (λ i. is_zero_entry (get_or r.waiting.entries i zero_entry)) (numbers waiting_limit)

-- ---- a chunk

abbrev pub zero_chunk : Chunk
zero_chunk = blank State.Normal no_epoch

abbrev pub is_zero_chunk : Chunk → Bool
is_zero_chunk c =
    is_normal c.state && not c.lost && c.epoch same no_epoch
    && none (λ b. get_or c.reconcile b false) (numbers block_limit)

-- ---- an operation, an attempt, a host

abbrev pub zero_operation : Operation
zero_operation = operation_of 0 Action.Read

abbrev pub is_zero_operation : Operation → Bool
is_zero_operation o = eqb o.block 0 && is_reading o.action

abbrev pub zero_queue : Queue
zero_queue = record { count = 0; operations = replicate operation_limit zero_operation }

-- "current timestamp, outstanding chunks, okay, restart and result value all zero or false"
abbrev pub zero_attempt : Attempt
zero_attempt = record { timestamp = never; outstanding = zero_set; okay = false; restart = false; result = 0 }

abbrev pub is_zero_attempt : Attempt → Bool
is_zero_attempt a = a.timestamp is never && is_empty a.outstanding && not a.okay && not a.restart && eqb a.result 0

abbrev pub zero_host : Host
zero_host = record { working = false; queue = zero_queue; attempt = zero_attempt; epoch = no_epoch; mapped = false; clock = 0 }

abbrev pub is_zero_host : Host → Bool
is_zero_host h =
    not h.working && eqb h.queue.count 0
    && every (λ i. is_zero_operation (get_or h.queue.operations i zero_operation)) (numbers operation_limit)
    && is_zero_attempt h.attempt && h.epoch same no_epoch && not h.mapped && eqb h.clock 0

-- ---- a place of the network: empty

abbrev pub zero_place : Option Message
zero_place = None

-- ---- the whole table

abbrev pub zero_creation : Creation
zero_creation = creation_of 0 0 0 0 (replicate block_limit zero_set)

abbrev pub zero_table : Table
zero_table = record {
  creation = zero_creation;
  epoch = no_epoch;
  hosts = replicate host_limit zero_host;
  chunks = replicate chunk_limit zero_chunk;
  records = replicate (chunk_limit * block_limit) zero_record;
  places = replicate place_limit zero_place;
}

-- ---- beyond an array's end: zero, with arrays of no places. No rule looks there on a well-formed table

abbrev pub no_set : Set
no_set = record { chunks = [] }

abbrev pub no_record : Record
no_record = record { value = 0; read = never; write = never; waiting = record { count = 0; entries = [] } }

abbrev pub no_copy : Copy
no_copy = copy_with false false no_record

abbrev pub no_chunk : Chunk
no_chunk = record { state = State.Normal; lost = false; epoch = no_epoch; reconcile = [] }

abbrev pub no_host : Host
no_host = record {
  working = false;
  queue = record { count = 0; operations = [] };
  attempt = record { timestamp = never; outstanding = no_set; okay = false; restart = false; result = 0 };
  epoch = no_epoch;
  mapped = false;
  clock = 0;
}
