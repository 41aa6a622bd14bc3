-- What a well-formed table says, fact by fact, and the way back
use Rattle.std.specs.Prelude.{Option}
use Prim.Native.Nat.{ℕ, zero, suc, ◌-◌, ◌≤◌, ◌<◌}
use mathlib.Core.Path.{◌≡◌, refl, sym, ap, ◌∙◌}
use mathlib.Core.Bool.{Bool, true, false, cond, not, ◌&&◌, ◌||◌, true≢false}
use mathlib.Core.List.{List}
use native.Mathlib.Omega.{arith}
use lib.ListN.{length, get_or}
use lib.Dec.{eqb, ltb, leb}
use lib.Seq.{get_or-take}
use borrow.Author.Tests.{ltb-true, ltb-false, leb-true, le-leb, le-ltb, eqb-true, not-true}
use Rattle.rules.specs.Types.{Timestamp, Epoch, Set, Creation, Entry, Waiting, Record, Chunk, Operation, Queue, Attempt, Host, Header, Message, Sort, Table}
use Rattle.rules.specs.Creation.{is_creation, of_store, is_set_of}
use Rattle.rules.specs.Formed.{operation_formed, operation_at, queue_formed, attempt_formed, host_formed, chunk_formed, entry_formed, entry_at, waiting_formed, record_formed, sort_formed, message_formed, slot_formed, host_at, chunk_at, record_at, well_formed, hosts_formed, chunks_formed, records_formed, places_formed}
use Rattle.rules.specs.Hosts.{operations_of, queue_of, front}
use Rattle.rules.specs.Limits.{host_limit, chunk_limit, block_limit, operation_limit, waiting_limit, place_limit, greatest_clock, greatest_timestamp, up_to, one_to}
use Rattle.rules.specs.Messages.{header_of, sort_of, message_of}
use Rattle.rules.specs.Tables.{is_host, is_chunk, is_block, set_of, host_of, chunk_of, record_of, slot_of}
use Rattle.rules.specs.Timestamps.{never, ◌is◌, ◌above◌, ◌same◌, is_timestamp, is_epoch}
use Rattle.rules.specs.Waiting.{in_order, holding, head}
use Rattle.rules.specs.Words.{every, some, numbers, filled}
use Rattle.rules.specs.Zero.{◌among◌, is_empty, zero_entry, is_zero_entry, is_zero_record, zero_operation, is_zero_operation}
use Rattle.rules.proofs.Lists.{both, three, four, five, implied, implies, every-at, every-number, every-numbers, none_number, used-at, used_of, take_short, every_take, filled_any, filled-past}
use Rattle.rules.proofs.Messages.{made}
use Rattle.rules.proofs.Order.{Ordered, ascends_ordered, ordered_ascends}

-- a number from 1 to the greatest
pub one-to : (greatest n : ℕ) → one_to greatest n ≡ true → (1 ≤ n) × (n ≤ greatest)
one-to greatest n h = let r = both (leb 1 n) (leb n greatest) h in (leb-true 1 n r.0, leb-true n greatest r.1)

-- ---- a creation

pub record FormedCreation (k : Creation) : Type 0 where
  pub host : 1 ≤ k.hosts
  pub hosts : k.hosts ≤ host_limit
  pub chunks : k.chunks ≤ chunk_limit
  pub blocks : k.blocks ≤ block_limit
  pub sets : (b : ℕ) → b < block_limit → is_set_of k b ≡ true

module _ (k : Creation) where
  -- what the test of a creation says
  pub creation-facts : is_creation k ≡ true → FormedCreation k
  unfolding is_creation
  creation-facts h =
      let r = five (one_to host_limit k.hosts) (one_to chunk_limit k.chunks) (one_to block_limit k.blocks)
      (every (is_set_of k) (numbers block_limit)) (up_to greatest_clock k.age) h in
      record {
        host = (one-to host_limit k.hosts r.0).0;
        hosts = (one-to host_limit k.hosts r.0).1;
        chunks = (one-to chunk_limit k.chunks r.1).1;
        blocks = (one-to block_limit k.blocks r.2).1;
        sets = every-number (is_set_of k) block_limit r.3;
      }

  -- a number of the store's is an index of its array
  pub host-place : (h : ℕ) → is_host k h ≡ true → is_creation k ≡ true → h < host_limit
  host-place h e w = omega (arith, (creation-facts w).hosts, ltb-true h k.hosts e)

  pub chunk-place : (c : ℕ) → is_chunk k c ≡ true → is_creation k ≡ true → c < chunk_limit
  chunk-place c e w = omega (arith, (creation-facts w).chunks, ltb-true c k.chunks e)

  pub block-place : (b : ℕ) → is_block k b ≡ true → is_creation k ≡ true → b < block_limit
  block-place b e w = omega (arith, (creation-facts w).blocks, ltb-true b k.blocks e)

-- ---- sets of chunks

-- an empty set has no member
pub empty-none : (s : Set) → is_empty s ≡ true → (c : ℕ) → c < chunk_limit → c among s ≡ false
empty-none s h = none_number (λ c. c among s) chunk_limit (not-true (some (λ c. c among s) (numbers chunk_limit)) h)

-- a set with a member is not empty
pub member_some : (s : Set) (c : ℕ) → c < chunk_limit → c among s ≡ true → is_empty s ≡ false
member_some s c l e = go (is_empty s) refl
  where
    go : (b : Bool) → is_empty s ≡ b → b ≡ false
    go true q = absurd (true≢false (sym e ∙ empty-none s q c l))
    go false q = refl

module _ (k : Creation) where
  -- a set of the store's has the store's chunks alone
  pub of_store_lem : (s : Set) → of_store k s ≡ true → (c : ℕ) → c < chunk_limit → c among s ≡ true → is_chunk k c ≡ true
  of_store_lem s h c l e = implied (c among s) (is_chunk k c) (every-number (λ c. not (c among s) || is_chunk k c) chunk_limit h c l) e

  -- and a set with the store's chunks alone is the store's
  pub is_of_store_lem : (s : Set) → ((c : ℕ) → c < chunk_limit → c among s ≡ true → is_chunk k c ≡ true) → of_store k s ≡ true
  is_of_store_lem s h = every-numbers (λ c. not (c among s) || is_chunk k c) chunk_limit (λ c l. implies (c among s) (is_chunk k c) (h c l))

  -- the set of a block is one of the store's
  pub set_of_store : (b : ℕ) → is_creation k ≡ true → is_block k b ≡ true → of_store k (set_of k b) ≡ true
  set_of_store b w e =
      let s = set_of k b in
      (both (not (is_empty s)) (of_store k s) (rw e at ((creation-facts k w).sets b (block-place k b e w)))).1

  -- a set with a member is a block's
  pub set_of_block : (b c : ℕ) → is_creation k ≡ true → b < block_limit → c < chunk_limit → c among set_of k b ≡ true → is_block k b ≡ true
  set_of_block b c w m l e = go (is_block k b) refl
    where
      go : (x : Bool) → is_block k b ≡ x → x ≡ true
      go true q = refl
      go false q =
          let empty : is_empty (set_of k b) ≡ true = rw q at ((creation-facts k w).sets b m) in
          absurd (true≢false (sym empty ∙ member_some (set_of k b) c l e))

  -- ---- a host's queue

  pub record FormedQueue (q : Queue) : Type 0 where
    pub count : q.count ≤ operation_limit
    pub used : (i : ℕ) → i < q.count → is_block k (get_or q.operations i zero_operation).block ≡ true

  -- what the test of a queue says
  pub queue-facts : (q : Queue) → queue_formed k q ≡ true → FormedQueue q
  queue-facts q h =
      let o : ℕ → Operation = λ i. get_or q.operations i zero_operation in
      let r = both (leb q.count operation_limit) (every (operation_at k q) (numbers operation_limit)) h in
      let n = leb-true q.count operation_limit r.0 in
      record { count = n; used = used-at (λ i. operation_formed k (o i)) (λ i. is_zero_operation (o i)) operation_limit q.count r.1 n }

  -- the operations of a formed queue are 8 at most
  pub operations-length : (h : Host) → FormedQueue h.queue → length (operations_of h) ≤ operation_limit
  operations-length h f = omega (arith, f.count, take_short h.queue.count h.queue.operations)

  -- .. and formed
  pub operations-formed : (h : Host) → FormedQueue h.queue → every (operation_formed k) (operations_of h) ≡ true
  operations-formed h f = every_take (operation_formed k) h.queue.count h.queue.operations zero_operation f.used

  -- the queue of up to 8 formed operations is formed
  pub queue-formed : (l : List Operation) → length l ≤ operation_limit → every (operation_formed k) l ≡ true
      → queue_formed k (queue_of l) ≡ true
  unfolding queue_of
  queue-formed l n h =
      let o : ℕ → Operation = λ i. get_or (filled operation_limit zero_operation l) i zero_operation in
      rw (le-leb (length l) operation_limit n)
      (used_of (λ i. operation_formed k (o i)) (λ i. is_zero_operation (o i)) operation_limit (length l)
      (λ i m. rw (filled_any zero_operation operation_limit l n i) (every-at (operation_formed k) l i zero_operation h m))
      (λ i _ m. rw (filled-past zero_operation operation_limit l n i m) refl))

  -- the front operation is about a block
  pub front-block : (h : Host) → FormedQueue h.queue → 0 < h.queue.count → is_block k (front h).block ≡ true
  front-block h f l = rw (get_or-take h.queue.count h.queue.operations 0 zero_operation l) (f.used 0 l)

  -- ---- a host's attempt, and the host

  -- the attempt of a host with a current operation, by its timestamp and the chunks outstanding
  pub record FormedAttempt (count : ℕ) (now : Timestamp) (out : Set) : Type 0 where
    pub one : 1 ≤ count
    pub timestamp : is_timestamp now ≡ true
    pub outstanding : of_store k out ≡ true

  module _ (n : ℕ) (a : Attempt) where
    -- what the test of an attempt says where there is a current operation
    pub attempt-facts : attempt_formed k n a ≡ true → a.timestamp above never ≡ true → FormedAttempt n a.timestamp a.outstanding
    attempt-facts h e =
        let r = three (leb 1 n) (is_timestamp a.timestamp) (of_store k a.outstanding) (rw e at h) in
        record { one = leb-true 1 n r.0; timestamp = r.1; outstanding = r.2 }

    -- the way back
    pub attempt-formed : a.timestamp above never ≡ true → FormedAttempt n a.timestamp a.outstanding → attempt_formed k n a ≡ true
    attempt-formed e f = rw (e, le-leb 1 n f.one, f.timestamp, f.outstanding) refl

    -- with chunks outstanding there is a current operation
    pub outstanding-current : attempt_formed k n a ≡ true → is_empty a.outstanding ≡ false → a.timestamp above never ≡ true
    outstanding-current h e = go (a.timestamp above never) refl
      where
        go : (b : Bool) → a.timestamp above never ≡ b → b ≡ true
        go true q = refl
        go false q =
            let r = five (a.timestamp is never) (is_empty a.outstanding) (not a.okay) (not a.restart) (eqb a.result 0)
            (rw q at h) in
            absurd (true≢false (sym r.1 ∙ e))

  pub record FormedHost (h : Host) : Type 0 where
    pub queue : queue_formed k h.queue ≡ true
    pub attempt : attempt_formed k h.queue.count h.attempt ≡ true
    pub epoch : is_epoch h.epoch ≡ true
    pub clock : up_to greatest_clock h.clock ≡ true

  -- what the test of a host says
  pub host-facts : (h : Host) → host_formed k h ≡ true → FormedHost h
  host-facts h f =
      let r = four (queue_formed k h.queue) (attempt_formed k h.queue.count h.attempt) (is_epoch h.epoch)
      (up_to greatest_clock h.clock) f in
      record { queue = r.0; attempt = r.1; epoch = r.2; clock = r.3 }

  -- the way back
  pub host-formed : (h : Host) → FormedHost h → host_formed k h ≡ true
  host-formed h f = rw (f.queue, f.attempt, f.epoch, f.clock) refl

  -- ---- a chunk

  pub record FormedChunk (current : Epoch) (c : Chunk) : Type 0 where
    pub epoch : c.epoch same current ≡ true
    pub reconcile : (b : ℕ) → b < block_limit → get_or c.reconcile b false ≡ true → is_block k b ≡ true

  module _ (current : Epoch) (c : Chunk) where
    -- b is not in the reconciliation set, or is a block
    abbrev reconciles : ℕ → Bool
    reconciles b = not (get_or c.reconcile b false) || is_block k b

    -- what the test of a chunk says
    pub chunk-facts : chunk_formed k current c ≡ true → FormedChunk current c
    chunk-facts h =
        let r = both (c.epoch same current) (every reconciles (numbers block_limit)) h in
        record {
          epoch = r.0;
          reconcile = λ b l. implied (get_or c.reconcile b false) (is_block k b) (every-number reconciles block_limit r.1 b l);
        }

    -- the way back
    pub chunk-formed : FormedChunk current c → chunk_formed k current c ≡ true
    chunk-formed f =
        rw f.epoch
        (every-numbers reconciles block_limit (λ b l. implies (get_or c.reconcile b false) (is_block k b) (f.reconcile b l)))

  -- ---- a waiting list

  -- the timestamp of entry i
  abbrev pub stamp_at : List Entry → ℕ → ℕ
  stamp_at l i = (get_or l i zero_entry).timestamp.0

  -- entry i is not below the one ahead of it
  abbrev not_below : List Entry → ℕ → Bool
  not_below l i = not (ltb (stamp_at l i) (stamp_at l (i - 1)))

  -- entry i of an array is a waiting one, or an unused place
  abbrev waits_at : List Entry → ℕ → Bool
  waits_at l i = entry_formed k (get_or l i zero_entry) && not_below l i

  abbrev unused_at : List Entry → ℕ → Bool
  unused_at l i = is_zero_entry (get_or l i zero_entry)

  pub record FormedWaiting (w : Waiting) : Type 0 where
    pub count : w.count ≤ waiting_limit
    pub used : (i : ℕ) → i < w.count → entry_formed k (get_or w.entries i zero_entry) ≡ true
    pub order : (i : ℕ) → suc i < w.count → stamp_at w.entries i ≤ stamp_at w.entries (suc i)

  -- what the test of a waiting list says
  pub waiting-facts : (w : Waiting) → waiting_formed k w ≡ true → FormedWaiting w
  waiting-facts w h = record { count = n; used = λ i l. (waits i l).0; order = λ i l. order i (waits (suc i) l).1 }
    where
      r : (leb w.count waiting_limit ≡ true) × (every (entry_at k w) (numbers waiting_limit) ≡ true)
      r = both (leb w.count waiting_limit) (every (entry_at k w) (numbers waiting_limit)) h

      n : w.count ≤ waiting_limit
      n = leb-true w.count waiting_limit r.0

      waits : (i : ℕ) → i < w.count → (entry_formed k (get_or w.entries i zero_entry) ≡ true) × (not_below w.entries i ≡ true)
      waits i l =
          both (entry_formed k (get_or w.entries i zero_entry)) (not_below w.entries i)
          (used-at (waits_at w.entries) (unused_at w.entries) waiting_limit w.count r.1 n i l)

      order : (i : ℕ) → not_below w.entries (suc i) ≡ true → stamp_at w.entries i ≤ stamp_at w.entries (suc i)
      order i g =
          let q : suc i - 1 ≡ i = omega arith in
          let s = stamp_at w.entries in
          ltb-false (s (suc i)) (s i) (not-true (ltb (s (suc i)) (s i)) (rw q at g))

  -- the entries of a formed waiting list are 8 at most
  pub entries-length : (w : Waiting) → FormedWaiting w → length (in_order w) ≤ waiting_limit
  entries-length w f = omega (arith, f.count, take_short w.count w.entries)

  -- .. and formed
  pub entries-formed : (w : Waiting) → FormedWaiting w → every (entry_formed k) (in_order w) ≡ true
  entries-formed w f = every_take (entry_formed k) w.count w.entries zero_entry f.used

  -- .. and in order
  pub entries_ordered : (w : Waiting) → FormedWaiting w → Ordered (in_order w)
  entries_ordered w f =
      ascends_ordered (in_order w) (λ i l.
      let m : suc i < w.count = omega (arith, take_short w.count w.entries) in
      rw (get_or-take w.count w.entries i zero_entry (omega arith), get_or-take w.count w.entries (suc i) zero_entry m)
      (f.order i m))

  -- the waiting list of up to 8 formed entries in order is formed
  pub waiting-formed : (l : List Entry) → length l ≤ waiting_limit → every (entry_formed k) l ≡ true → Ordered l
      → waiting_formed k (holding l) ≡ true
  unfolding holding
  waiting-formed l n h o =
      rw (le-leb (length l) waiting_limit n)
      (used_of (waits_at a) (unused_at a) waiting_limit (length l)
      (λ i m. rw (here i m) (not-below i m))
      (λ i _ m. rw (filled-past zero_entry waiting_limit l n i m) refl))
    where
      a : List Entry
      a = filled waiting_limit zero_entry l

      here : (i : ℕ) → i < length l → entry_formed k (get_or a i zero_entry) ≡ true
      here i m = rw (filled_any zero_entry waiting_limit l n i) (every-at (entry_formed k) l i zero_entry h m)

      stamped : (i : ℕ) → i < length l → stamp_at a i ≡ stamp_at l i
      stamped i m = ap (λ (e : Entry). e.timestamp.0) (filled_any zero_entry waiting_limit l n i)

      ahead : (i : ℕ) → i < length l → stamp_at l (i - 1) ≤ stamp_at l i
      ahead zero m = omega arith
      ahead (suc i) m =
          let q : suc i - 1 ≡ i = omega arith in
          rw q (ordered_ascends 0 l o i m)

      not-below : (i : ℕ) → i < length l → not_below a i ≡ true
      not-below i m =
          let least : stamp_at a (i - 1) ≤ stamp_at a i = omega (arith, stamped i m, stamped (i - 1) (omega arith), ahead i m) in
          ap not (le-ltb (stamp_at a i) (stamp_at a (i - 1)) least)

  -- the head of a formed waiting list that has one
  pub head-formed : (w : Waiting) → FormedWaiting w → 0 < w.count → entry_formed k (head w) ≡ true
  head-formed w f l = rw (get_or-take w.count w.entries 0 zero_entry l) (f.used 0 l)

  -- ---- a record

  pub record FormedRecord (r : Record) : Type 0 where
    pub read : is_timestamp r.read ≡ true
    pub write : is_timestamp r.write ≡ true
    pub waiting : waiting_formed k r.waiting ≡ true

  -- what the test of a record says
  pub record_facts : (r : Record) → record_formed k r ≡ true → FormedRecord r
  record_facts r h =
      let f = three (is_timestamp r.read) (is_timestamp r.write) (waiting_formed k r.waiting) h in
      record { read = f.0; write = f.1; waiting = f.2 }

  -- the way back
  pub record_formed_lem : (r : Record) → FormedRecord r → record_formed k r ≡ true
  record_formed_lem r f = rw (f.read, f.write, f.waiting) refl

  -- a zero record is a formed one
  pub zero_record_formed : (r : Record) → is_zero_record r ≡ true → record_formed k r ≡ true
  zero_record_formed r h =
      let w = r.waiting in
      let f = five (eqb r.value 0) (r.read is never) (r.write is never) (eqb w.count 0)
      (every (unused_at w.entries) (numbers waiting_limit)) h in
      let n = eqb-true w.count 0 f.3 in
      record_formed_lem r (record {
        read = le-leb r.read.0 greatest_timestamp (omega (arith, eqb-true r.read.0 0 f.1));
        write = le-leb r.write.0 greatest_timestamp (omega (arith, eqb-true r.write.0 0 f.2));
        waiting = rw (le-leb w.count waiting_limit (omega arith))
            (used_of (waits_at w.entries) (unused_at w.entries) waiting_limit w.count (λ i l. absurd (omega arith))
            (λ i l _. every-number (unused_at w.entries) waiting_limit f.4 i l));
      })

  -- ---- a message, and the places

  pub record FormedHeader (h : Header) : Type 0 where
    pub host : is_host k h.host ≡ true
    pub chunk : is_chunk k h.chunk ≡ true
    pub block : ltb h.block block_limit ≡ true
    pub timestamp : is_timestamp h.timestamp ≡ true

  pub record FormedMessage (m : Message) : Type 0 where
    pub header : FormedHeader (header_of m)
    pub sort : sort_formed (sort_of m) ≡ true

  -- what the test of a message says
  pub message_facts : (m : Message) → message_formed k m ≡ true → FormedMessage m
  message_facts m f =
      let h = header_of m in
      let r = five (is_host k h.host) (is_chunk k h.chunk) (ltb h.block block_limit) (is_timestamp h.timestamp)
      (sort_formed (sort_of m)) f in
      record { header = record { host = r.0; chunk = r.1; block = r.2; timestamp = r.3 }; sort = r.4 }

  -- the way back
  pub message_formed_lem : (h : Header) (s : Sort) → FormedHeader h → sort_formed s ≡ true → message_formed k (message_of h s) ≡ true
  message_formed_lem h s f e = rw ((made h s).0, (made h s).1, f.host, f.chunk, f.block, f.timestamp, e) refl

  -- each place is empty or has a formed message
  abbrev pub FormedPlaces : List (Option Message) → Type 0
  FormedPlaces l = (p : ℕ) → p < place_limit → slot_formed k (slot_of l p) ≡ true

-- ---- the table

pub record Formed (t : Table) : Type 0 where
  pub creation : is_creation t.creation ≡ true
  pub epoch : is_epoch t.epoch ≡ true
  pub hosts : (h : ℕ) → h < host_limit → host_at t.creation h (host_of t h) ≡ true
  pub chunks : (c : ℕ) → c < chunk_limit → chunk_at t.creation t.epoch c (chunk_of t c) ≡ true
  pub records : (c b : ℕ) → c < chunk_limit → b < block_limit → record_at t.creation c b (record_of t c b) ≡ true
  pub places : FormedPlaces t.creation t.places

module _ (t : Table) where
  abbrev recorded : (c b : ℕ) → Bool
  recorded c b = record_at t.creation c b (record_of t c b)

  -- what the test of a table says
  pub formed : well_formed t ≡ true → Formed t
  unfolding well_formed
  formed h =
      let k = t.creation in
      let r = both _ (places_formed k t.places) h in
      let s = five (is_creation k) (is_epoch t.epoch) (hosts_formed k t.hosts) (chunks_formed k t.epoch t.chunks) (records_formed k t.records) r.0 in
      record {
        creation = s.0;
        epoch = s.1;
        hosts = every-number _ host_limit s.2;
        chunks = every-number _ chunk_limit s.3;
        records = λ c b l m. every-number (recorded c) block_limit (every-number (λ c. every (recorded c) (numbers block_limit)) chunk_limit s.4 c l) b m;
        places = every-number _ place_limit r.1;
      }

  -- the way back
  pub well_formed_lem : Formed t → well_formed t ≡ true
  unfolding well_formed
  well_formed_lem f =
      let k = t.creation in
      let hosts : hosts_formed k t.hosts ≡ true = every-numbers _ host_limit f.hosts in
      let chunks : chunks_formed k t.epoch t.chunks ≡ true = every-numbers _ chunk_limit f.chunks in
      let records : records_formed k t.records ≡ true = every-numbers (λ c. every (recorded c) (numbers block_limit)) chunk_limit
      (λ c l. every-numbers (recorded c) block_limit (λ b m. f.records c b l m)) in
      let places : places_formed k t.places ≡ true = every-numbers _ place_limit f.places in
      rw (f.creation, f.epoch, hosts, chunks, records, places) refl

-- ---- the parts of a well-formed table

module _ (t : Table) (f : Formed t) where
  -- a host of the store's is formed
  pub host_of_lem : (h : ℕ) → is_host t.creation h ≡ true → host_formed t.creation (host_of t h) ≡ true
  host_of_lem h e = rw e at (f.hosts h (host-place t.creation h e f.creation))

  -- .. and so is its queue
  pub queue_of_lem : (h : ℕ) → is_host t.creation h ≡ true → FormedQueue t.creation (host_of t h).queue
  queue_of_lem h e =
      let x = host_of t h in
      queue-facts t.creation x.queue (host-facts t.creation x (host_of_lem h e)).queue

  -- a chunk of the store's is formed
  pub chunk_of_lem : (c : ℕ) → is_chunk t.creation c ≡ true → chunk_formed t.creation t.epoch (chunk_of t c) ≡ true
  chunk_of_lem c e = rw e at (f.chunks c (chunk-place t.creation c e f.creation))

  -- every record is formed, the store's or not
  pub record_of_lem : (c b : ℕ) → c < chunk_limit → b < block_limit → record_formed t.creation (record_of t c b) ≡ true
  record_of_lem c b l m = go (is_chunk t.creation c && is_block t.creation b) (f.records c b l m)
    where
      go : (x : Bool) → cond x (record_formed t.creation (record_of t c b)) (is_zero_record (record_of t c b)) ≡ true
          → record_formed t.creation (record_of t c b) ≡ true
      go true h = h
      go false h = zero_record_formed t.creation (record_of t c b) h

  -- .. and so is its waiting list
  pub waiting_of : (c b : ℕ) → c < chunk_limit → b < block_limit → FormedWaiting t.creation (record_of t c b).waiting
  waiting_of c b l m =
      let r = record_of t c b in
      waiting-facts t.creation r.waiting (record_facts t.creation r (record_of_lem c b l m)).waiting
