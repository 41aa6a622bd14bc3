-- Document 01: "A table is well formed when every number is within the ranges above, counts are within limits, waiting entries are
-- in ascending timestamp order (equal allowed), all chunks have one epoch, the store's, and unused places are zero"
use Rattle.std.specs.Prelude.{ℕ, ◌-◌, Bool, true, false, not, ◌&&◌, ◌||◌, List, get_or, ltb, leb, if◌then◌else◌, None, Option, Some}
use Rattle.rules.specs.Types.{Epoch, Creation, Entry, Waiting, Record, Chunk, Operation, Queue, Attempt, Host, Header, Message, Sort, Table}
use Rattle.rules.specs.Creation.{is_creation, of_store}
use Rattle.rules.specs.Limits.{host_limit, chunk_limit, block_limit, operation_limit, waiting_limit, place_limit, greatest_clock, up_to}
use Rattle.rules.specs.Messages.{header_of, sort_of}
use Rattle.rules.specs.Tables.{is_host, is_chunk, is_block, slot_of, at}
use Rattle.rules.specs.Timestamps.{◌above◌, ◌same◌, never, is_timestamp, is_epoch}
use Rattle.rules.specs.Words.{every, numbers}
use Rattle.rules.specs.Zero.{zero_entry, is_zero_entry, is_zero_record, is_zero_chunk, zero_operation, is_zero_operation, is_zero_attempt, is_zero_host, no_host, no_chunk, no_record}

-- of a message's own numbers the epoch has a range: "the first four also the epoch the host knows"
abbrev pub sort_formed : Sort → Bool
sort_formed (Sort.Request epoch q) = is_epoch epoch
sort_formed (Sort.Refusal x) = true
sort_formed (Sort.ReadReply v) = true
sort_formed Sort.PrewriteReply = true

module _ (k : Creation) where
  -- ---- a host: "up to 8 operations, counting the current one; .. epoch known; .. last clock drawn"

  abbrev pub operation_formed : Operation → Bool
  operation_formed o = is_block k o.block

  -- operation i of a queue: one of the count, or an unused place
  abbrev pub operation_at : Queue → ℕ → Bool
  operation_at q i =
      let o = get_or q.operations i zero_operation in
      if ltb i q.count then operation_formed o else is_zero_operation o

  abbrev pub queue_formed : Queue → Bool
  queue_formed q = leb q.count operation_limit && every (operation_at q) (numbers operation_limit)

  -- "A host without a current operation has current timestamp, outstanding chunks, okay, restart and result value all zero or
  -- false. With one, the current timestamp is above 0"
  abbrev pub attempt_formed : (count : ℕ) → Attempt → Bool
  attempt_formed count a =
      if a.timestamp above never then leb 1 count && is_timestamp a.timestamp && of_store k a.outstanding else is_zero_attempt a

  abbrev pub host_formed : Host → Bool
  host_formed h =
      queue_formed h.queue && attempt_formed h.queue.count h.attempt && is_epoch h.epoch && up_to greatest_clock h.clock

  -- ---- a chunk: "all chunks have one epoch, the store's"; "the set of blocks needing reconciliation"

  abbrev pub chunk_formed : Epoch → Chunk → Bool
  chunk_formed epoch c =
      c.epoch same epoch && every (λ b. not (get_or c.reconcile b false) || is_block k b) (numbers block_limit)

  -- ---- a record: "for each block a value, last read, last write, and up to 8 waiting entries in timestamp order"

  abbrev pub entry_formed : Entry → Bool
  entry_formed e = is_timestamp e.timestamp && is_host k e.sender && is_epoch e.epoch

  -- entry i of a waiting list: one of the count, not below the one ahead of it, or an unused place
  abbrev pub entry_at : Waiting → ℕ → Bool
  entry_at w i =
      let e = get_or w.entries i zero_entry in
      let ahead = get_or w.entries (i - 1) zero_entry in
      if ltb i w.count then entry_formed e && not (ahead.timestamp above e.timestamp) else is_zero_entry e

  abbrev pub waiting_formed : Waiting → Bool
  waiting_formed w = leb w.count waiting_limit && every (entry_at w) (numbers waiting_limit)

  abbrev pub record_formed : Record → Bool
  record_formed r = is_timestamp r.read && is_timestamp r.write && waiting_formed r.waiting

  -- ---- a message: "a message's block may be 0 to 15 and a timestamp anything up to 34,359,738,367"

  abbrev pub header_formed : Header → Bool
  header_formed h = is_host k h.host && is_chunk k h.chunk && ltb h.block block_limit && is_timestamp h.timestamp

  abbrev pub message_formed : Message → Bool
  message_formed m = header_formed (header_of m) && sort_formed (sort_of m)

  abbrev pub slot_formed : Option Message → Bool
  slot_formed None = true
  slot_formed (Some m) = message_formed m

  -- ---- the arrays: a part of the store's is formed, an unused place is zero

  abbrev pub host_at : ℕ → Host → Bool
  host_at i h = if is_host k i then host_formed h else is_zero_host h

  abbrev pub hosts_formed : List Host → Bool
  hosts_formed hosts = every (λ i. host_at i (get_or hosts i no_host)) (numbers host_limit)

  abbrev pub chunk_at : Epoch → ℕ → Chunk → Bool
  chunk_at epoch i c = if is_chunk k i then chunk_formed epoch c else is_zero_chunk c

  abbrev pub chunks_formed : Epoch → List Chunk → Bool
  chunks_formed epoch chunks = every (λ i. chunk_at epoch i (get_or chunks i no_chunk)) (numbers chunk_limit)

  -- "A chunk has a record for every block, held or not"
  abbrev pub record_at : (chunk block : ℕ) → Record → Bool
  record_at c b r = if is_chunk k c && is_block k b then record_formed r else is_zero_record r

  abbrev pub records_formed : List Record → Bool
  records_formed records = every (λ c. every (λ b. record_at c b (get_or records (at c b) no_record)) (numbers block_limit)) (numbers chunk_limit)

  abbrev pub places_formed : List (Option Message) → Bool
  places_formed places = every (λ p. slot_formed (slot_of places p)) (numbers place_limit)

unfoldable pub well_formed : Table → Bool
well_formed t =
    let k = t.creation in
    is_creation k
    && is_epoch t.epoch
    && hosts_formed k t.hosts
    && chunks_formed k t.epoch t.chunks
    && records_formed k t.records
    && places_formed k t.places
