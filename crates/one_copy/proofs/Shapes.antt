-- The arrays of a table have their lengths. No rule tests that, and every event keeps it
use Rattle.std.specs.Prelude.{Option}
use Prim.Native.Nat.{ℕ, ◌+◌, ◌*◌, ◌≤◌, ◌<◌}
use mathlib.Core.Path.{◌≡◌, refl, ◌∙◌, ap}
use mathlib.Core.Logic.{inl, inr}
use mathlib.Core.Bool.{Bool, true, false, cond}
use mathlib.Core.List.{List, [], ◌∷◌, ◌++◌}
use native.Mathlib.Omega.{arith}
use lib.ListN.{length, get_or, length-append, length-take, length-set, get_or-replicate, get_or-eq_default}
use borrow.Author.Tests.{lt-ltb}
use Rattle.one_copy.specs.Types.{Epoch, Creation, Entry, Record, Chunk, Operation, Host, Table, Message}
use Rattle.rules.specs.Creation.{fresh_host, fresh_chunk, fresh}
use Rattle.rules.specs.Hosts.{operations_of, queue_of, front, appended}
use Rattle.rules.specs.Limits.{host_limit, chunk_limit, block_limit, operation_limit, waiting_limit}
use Rattle.rules.specs.Tables.{is_host, is_chunk, host_of, record_of, records_by, with_host, with_chunk, with_record, with_records, with_places, with_chunks, with_epoch}
use Rattle.rules.specs.Waiting.{holding}
use Rattle.rules.specs.Words.{each, joined, from, numbers}
use Rattle.rules.specs.Zero.{zero_entry, zero_record, zero_operation, zero_host, zero_chunk, no_host, no_record}
use Rattle.rules.proofs.Formed.{Formed, host-place, host_of_lem, host-facts, attempt-facts}
use Rattle.rules.proofs.Lists.{filled-take, take_short, get_set, set_all, each-length, numbers-length, each_number, grid-at}
use Rattle.rules.proofs.Loops.{filled-length}

pub record Shape (t : Table) : Type 0 where
  pub hosts : length t.hosts ≡ host_limit
  pub chunks : length t.chunks ≡ chunk_limit
  pub records : length t.records ≡ chunk_limit * block_limit
  pub queues : (j : ℕ) → j < host_limit → length (host_of t j).queue.operations ≡ operation_limit
  pub entries : (c b : ℕ) → c < chunk_limit → b < block_limit → length (record_of t c b).waiting.entries ≡ waiting_limit

-- ---- what is filled has its length

-- a waiting list
pub holding-length : (l : List Entry) → length (holding l).entries ≡ waiting_limit
unfolding holding
holding-length l = filled-length zero_entry waiting_limit l

-- a queue
pub queue-length : (l : List Operation) → length (queue_of l).operations ≡ operation_limit
unfolding queue_of
queue-length l = filled-length zero_operation operation_limit l

-- all records
records-length : (f : ℕ → ℕ → Record) → length (records_by f) ≡ chunk_limit * block_limit
unfolding each joined from
records-length f = refl

-- beyond the last chunk there is no record
pub records-beyond : (f : ℕ → ℕ → Record) (c b : ℕ) → chunk_limit ≤ c → get_or (records_by f) (c * block_limit + b) no_record ≡ no_record
records-beyond f c b l = get_or-eq_default (records_by f) no_record (omega (arith, records-length f))

-- ---- a table with one part changed

module _ (t : Table) (s : Shape t) where
  -- beyond the last chunk there is no record
  pub beyond : (c b : ℕ) → chunk_limit ≤ c → record_of t c b ≡ no_record
  beyond c b l = get_or-eq_default t.records no_record (omega (arith, s.records))

  -- a host
  pub shape-host : (j : ℕ) (x : Host) → length x.queue.operations ≡ operation_limit → Shape (with_host t j x)
  shape-host j x h = record {
    hosts = length-set t.hosts j x ∙ s.hosts;
    chunks = s.chunks;
    records = s.records;
    queues = set_all (λ i (y : Host). i < host_limit → length y.queue.operations ≡ operation_limit) no_host t.hosts j x (λ _. h)
        s.queues;
    entries = s.entries;
  }

  -- a chunk
  pub shape-chunk : (c : ℕ) (x : Chunk) → Shape (with_chunk t c x)
  shape-chunk c x = record {
    hosts = s.hosts;
    chunks = length-set t.chunks c x ∙ s.chunks;
    records = s.records;
    queues =
        s.queues;
    entries = s.entries;
  }

  -- a record
  pub shape_record : (c b : ℕ) (x : Record) → length x.waiting.entries ≡ waiting_limit → Shape (with_record t c b x)
  shape_record c b x h = record {
    hosts = s.hosts;
    chunks = s.chunks;
    records = length-set t.records (c * block_limit + b) x ∙ s.records;
    queues = s.queues;
    entries = λ d a l m. elim (get_set t.records (c * block_limit + b) (d * block_limit + a) x no_record) [
      | inl e ↦
          rw e.1 h
      | inr e ↦ rw e (s.entries d a l m)
    ];
  }

  -- the places
  pub shape-places : (n : List (Option Message)) → Shape (with_places t n)
  shape-places n = record { hosts = s.hosts; chunks = s.chunks; records = s.records; queues = s.queues; entries = s.entries }

  -- all records anew
  pub shape-records : (f : ℕ → ℕ → Record) → ((c b : ℕ) → c < chunk_limit → b < block_limit
      → length (f c b).waiting.entries ≡ waiting_limit) → Shape (with_records t (records_by f))
  shape-records f h = record {
    hosts = s.hosts;
    chunks = s.chunks;
    records = records-length f;
    queues = s.queues;
    entries = λ c b l m. rw (grid-at f chunk_limit block_limit c b no_record l m) (h c b l m);
  }

  -- all chunks anew, and the epoch
  pub shape-epoch : (f : ℕ → Chunk) (x : Epoch) → Shape (with_epoch (with_chunks t (each f (numbers chunk_limit))) x)
  shape-epoch f x = record {
    hosts = s.hosts;
    chunks = each-length f (numbers chunk_limit) ∙ numbers-length chunk_limit;
    records =
        s.records;
    queues = s.queues;
    entries = s.entries;
  }

-- ---- the fresh table

-- it has its lengths
pub fresh-shape : (k : Creation) → Shape (fresh k)
unfolding fresh
fresh-shape k = record {
  hosts = each-length (λ h. cond (is_host k h) fresh_host zero_host) (numbers host_limit) ∙ numbers-length host_limit;
  chunks = each-length (λ c. cond (is_chunk k c) fresh_chunk zero_chunk) (numbers chunk_limit) ∙ numbers-length chunk_limit;
  records = refl;
  queues = λ j l. rw (each_number (λ h. cond (is_host k h) fresh_host zero_host) host_limit j no_host l) (go (is_host k j));
  entries = λ c b l m. rw (get_or-replicate (chunk_limit * block_limit) (c * block_limit + b) zero_record no_record (omega arith)) refl;
}
  where
    go : (x : Bool) → length (cond x fresh_host zero_host).queue.operations ≡ operation_limit
    go true = refl
    go false = refl

-- ---- what the lengths are for: a host at work has its operation at the front

-- an operation more does not change the front one
pub front_kept : (x : Host) (o : Operation) → 0 < length (operations_of x) → x.queue.count < operation_limit
    → front (appended x o) ≡ front x
unfolding appended queue_of
front_kept x o h k = ap (λ (l : List Operation). get_or l 0 zero_operation)
    (filled-take zero_operation operation_limit (operations_of x ++ o ∷ []) room) ∙ go (operations_of x) h
  where
    room : length (operations_of x ++ o ∷ []) ≤ operation_limit
    room = omega (arith, length-append (operations_of x) (o ∷ []), take_short x.queue.count x.queue.operations)

    go : (l : List Operation) → 0 < length l → get_or (l ++ o ∷ []) 0 zero_operation ≡ get_or l 0 zero_operation
    go [] h = absurd (omega arith)
    go (p ∷ l) h = refl

-- a host at work has an operation
pub at_front : (t : Table) → Formed t → Shape t → (j : ℕ) → is_host t.creation j ≡ true → 0 < (host_of t j).attempt.timestamp.0
    → 0 < length (operations_of (host_of t j))
at_front t f s j lj p =
    let k = t.creation in
    let x = host_of t j in
    let a = attempt-facts k x.queue.count x.attempt (host-facts k x (host_of_lem t f j lj)).attempt
    (lt-ltb 0 x.attempt.timestamp.0 p) in
    omega (arith, a.one, s.queues j (host-place k j lj f.creation), length-take x.queue.count x.queue.operations)
