-- No event but a start mentions a new timestamp of a block
use Rattle.std.specs.Prelude.{Option}
use Rattle.std.specs.Prelude.{Some}
use Prim.Native.Nat.{ℕ, ◌<◌}
use mathlib.Core.Path.{◌≡◌, refl, subst, ◌∙◌, ap, subst⁻¹}
use mathlib.Core.Logic.{inl, inr}
use mathlib.Core.Bool.{Bool, true, false, cond}
use mathlib.Core.List.{List, [], ◌∷◌}
use native.Mathlib.Omega.{arith}
use lib.ListN.{length, get_or, take, drop}
use lib.Dec.{eqb}
use borrow.Author.Tests.{ltb-true, leb-false}
use Rattle.one_copy.specs.Types.{Timestamp, Epoch, Set, Kind, Entry, Waiting, Record, Operation, Queue, Host, Message, Request, Sort, Table, Arrived}
use Rattle.rules.specs.Chunks.{with_waiting, emptied, failed, answering, silent, entry_of, waits, arrived, decides, at_chunk, arrives, runs, ran}
use Rattle.rules.specs.Codes.{code_of}
use Rattle.rules.specs.Events.{holders_of, host_takes, takes, with_arrived}
use Rattle.rules.specs.Hosts.{front, operations_of, queue_of, appended, start_refusals, opening_to, opening, started, finish_refusals, closing_to, closing, goes_back, finished, ended, with_queue, timed_out, refreshed, stopped}
use Rattle.rules.specs.Kinds.{is_write, is_normal}
use Rattle.rules.specs.Limits.{host_limit, chunk_limit, block_limit, operation_limit, place_limit, waiting_limit}
use Rattle.rules.specs.Messages.{headed, header_of, sort_of, message_of, asking, is_for_chunk}
use Rattle.rules.specs.Network.{removed, sent_to_each, replied}
use Rattle.rules.specs.Tables.{is_host, host_of, chunk_of, record_of, records_by, slot_of, with_places, with_host, with_chunk, with_record, with_records}
use Rattle.rules.specs.Timestamps.{stamp, ◌below◌}
use Rattle.rules.specs.Waiting.{in_order, head, insert, inserted, head_removed, mark, marked}
use Rattle.rules.specs.Words.{every}
use Rattle.rules.specs.Zero.{zero_entry, zero_operation, no_record}
use Rattle.rules.proofs.Formed.{Formed, FormedWaiting, FormedMessage, host-place, chunk-place, waiting_of, message_facts}
use Rattle.rules.proofs.Lists.{walk, grid-at}
use Rattle.rules.proofs.Messages.{arrived-walk, decides-walk, hears-keeps, left_as, ran-same, arrives-same}
use Rattle.rules.proofs.Order.{mark_timestamps}
use Rattle.rules.proofs.Refusals.{granted_exactly}
use Rattle.rules.proofs.Relies.{finish_current}
use Rattle.one_copy.proofs.Tests.{at, le_or_lt}
use Rattle.one_copy.proofs.Lists.{Any, any_each, each_any}
use Rattle.one_copy.proofs.Net.{OfBoth, made-both, sent-each, sent-taken, sent-at}
use Rattle.one_copy.proofs.Queue.{insert-to, inserted-order, marked-order, removed-order}
use Rattle.one_copy.proofs.Shapes.{Shape, holding-length, queue-length, shape-host, shape-places, shape-chunk, shape-records, records-beyond, front_kept, at_front}
use Rattle.one_copy.proofs.Homes.{AtTs, Mention, Less, NetOk, same_net, less-places, less-host, less_record, one_ok, each-ok, kept, rested, Homes, begins-home}

-- ---- the waiting list

-- marking changes no timestamp
mark-ts : (commit : Bool) (t : Timestamp) (q : List Entry) (u : ℕ) → Any (AtTs u) (mark commit t q) → Any (AtTs u) q
mark-ts commit t q u z = any_each (λ (e : Entry). e.timestamp) (λ (a : Timestamp). a.0 ≡ u) q
    (subst (Any (λ (a : Timestamp). a.0 ≡ u)) (mark_timestamps commit t q)
    (each_any (λ (e : Entry). e.timestamp) (λ (a : Timestamp). a.0 ≡ u) (mark commit t q) z))

-- what is behind the head waits
drop_any : (P : Entry → Type 0) (l : List Entry) → Any P (drop 1 l) → Any P l
drop_any P [] z = z
drop_any P (x ∷ xs) z = inr z

-- ---- hosts

module _ (t : Table) (f : Formed t) (j : ℕ) (lj : is_host t.creation j ≡ true) where
  -- the host
  abbrev x : Host
  x = host_of t j

  -- the host's place
  place-j : j < host_limit
  place-j = host-place t.creation j lj f.creation

  -- a change that keeps queue, timestamp and clock
  tame : (y : Host) → y.queue ≡ x.queue → y.attempt.timestamp ≡ x.attempt.timestamp → y.clock ≡ x.clock → Less (with_host t j y) t
  tame y eq et ec = less-host t j y t.places
      (kept t j y (λ _. ap (λ (q : Queue). get_or (take q.count q.operations) 0 zero_operation) eq) et) (omega arith)
      (λ s. ap (λ (q : Queue). length q.operations) eq ∙ s.queues j place-j) (same_net t)

  -- timeout
  pub timeout_less : Less (with_host t j (timed_out x)) t
  timeout_less = tame (timed_out x) refl refl refl

  -- refresh
  pub refresh_less : Less (with_host t j (refreshed x t.epoch)) t
  refresh_less = tame (refreshed x t.epoch) refl refl refl

  -- stop
  pub stop_less : Less (with_host t j (stopped x)) t
  stop_less = tame (stopped x) refl refl refl

  -- intake
  pub intake_less : Shape t → (o : Operation) → x.queue.count < operation_limit → Less (with_host t j (appended x o)) t
  unfolding appended
  intake_less s o k = less-host t j (appended x o) t.places (kept t j (appended x o)
      (λ p. front_kept x o (at_front t f s j lj p) k) refl) (omega arith)
      (λ _. queue-length _) (same_net t)

  -- a finish leaves no timestamp, the clock, and a queue of its length
  finished_as : (g : Bool) → Shape t
      → ((cond g (ended x) (with_queue (ended x) (queue_of (drop 1 (operations_of x))))).attempt.timestamp.0 ≡ 0)
      × ((cond g (ended x) (with_queue (ended x) (queue_of (drop 1 (operations_of x))))).clock ≡ x.clock)
      × (length (cond g (ended x) (with_queue (ended x) (queue_of (drop 1 (operations_of x))))).queue.operations ≡ operation_limit)
  finished_as true s = (refl, refl, s.queues j place-j)
  finished_as false s = (refl, refl, queue-length (drop 1 (operations_of x)))

  -- finish: the messages are under the host's own timestamp
  pub finish_less : Shape t → (free messages : ℕ) → code_of (finish_refusals x free messages) ≡ 0
      → Less (with_places (with_host t j (finished x)) (sent_to_each t.places (closing_to (front x).action (holders_of t.creation x))
      (λ c. asking (headed j c (front x).block x.attempt.timestamp) x.epoch (closing x.attempt.okay)))) t
  unfolding every finished
  finish_less s free messages e =
      let g = finished_as (goes_back x.attempt) s in
      let p : 0 < x.attempt.timestamp.0 = ltb-true 0 x.attempt.timestamp.0 (finish_current x free messages e) in
      less-host t j (finished x) _ (rested t (finished x) g.0) (omega (arith, g.1)) (λ _. g.2)
      (each-ok t _ _ t.places (same_net t) (λ a u d z.
      let w = made-both (headed j a (front x).block x.attempt.timestamp) (Sort.Request x.epoch (closing x.attempt.okay)) d u z in
      inl (j, record { stamp = w.1; pos = omega (arith, w.1); block = w.0 })))

  -- a start: the new timestamp is the front operation's block's
  pub start_home : (blk : ℕ → ℕ) → Shape t → Homes blk t → (clock copy free messages : ℕ)
      → code_of (start_refusals x clock copy (holders_of t.creation x) free messages) ≡ 0
      → Homes (at (stamp clock j).0 (front x).block blk)
      (with_places (with_host t j (started x (stamp clock j) clock (opening_to (front x).action copy (holders_of t.creation x))))
      (sent_to_each t.places (opening_to (front x).action copy (holders_of t.creation x))
      (λ c. asking (headed j c (front x).block (stamp clock j)) x.epoch (opening (front x).action))))
  unfolding every
  start_home blk s hm clock copy free messages e =
      begins-home blk t s hm j clock place-j (leb-false clock x.clock
      ((granted_exactly (start_refusals x clock copy (holders_of t.creation x) free messages) refl).0 e 5 (omega arith)))
      (started x (stamp clock j) clock (opening_to (front x).action copy (holders_of t.creation x)))
      (sent_to_each t.places (opening_to (front x).action copy (holders_of t.creation x))
      (λ c. asking (headed j c (front x).block (stamp clock j)) x.epoch (opening (front x).action))) (front x).block refl refl refl
      (λ u d z. elim (sent-each (OfBoth d u) (λ c. asking (headed j c (front x).block (stamp clock j)) x.epoch (opening (front x).action))
      (opening_to (front x).action copy (holders_of t.creation x)) t.places z) [
        | inl q ↦ inl q
        | inr q ↦
            inr (made-both (headed j q.0 (front x).block (stamp clock j)) (Sort.Request x.epoch (opening (front x).action)) d u q.3)
      ])

  -- a start keeps the shape
  pub start_shape : Shape t → (a : Timestamp) (clock : ℕ) (to : Set) (n : List (Option Message))
      → Shape (with_places (with_host t j (started x a clock to)) n)
  start_shape s a clock to n = shape-places (with_host t j (started x a clock to))
      (shape-host t s j (started x a clock to) (s.queues j place-j)) n

-- ---- a chunk's run

module _ (t : Table) (f : Formed t) (c d : ℕ) (lc : c < chunk_limit) (ld : d < block_limit) where
  -- the record
  abbrev r : Record
  r = record_of t c d

  -- its waiting list is formed
  formed_w : FormedWaiting t.creation r.waiting
  formed_w = waiting_of t f c d lc ld

  -- a run mentions nothing new
  abbrev Ran : Arrived → Type 0
  Ran a = Less (with_places (with_record t c d a.held) (replied t.places a.reply)) t

  -- what waits is mentioned
  waits-here : (u : ℕ) → Any (AtTs u) (in_order r.waiting) → Mention t u d
  waits-here u z = inr (inr (c, ld, z))

  -- nor does what is left behind the head
  rest : (u : ℕ) → Any (AtTs u) (in_order (head_removed r.waiting)) → Mention t u d
  rest u z = waits-here u (drop_any (AtTs u) (in_order r.waiting) (subst (Any (AtTs u)) (removed-order r.waiting formed_w.count) z))

  -- its array has its length
  rest-length : length (head_removed r.waiting).entries ≡ waiting_limit
  unfolding head_removed
  rest-length = holding-length (drop 1 (in_order r.waiting))

  -- the head, where there is one
  its : 0 < length (in_order r.waiting) → (u a : ℕ) → (d ≡ a) × ((head r.waiting).timestamp.0 ≡ u) → Mention t u a
  its l u a z = subst (Mention t u) z.0 (waits-here u (go (in_order r.waiting) l z.1))
    where
      go : (q : List Entry) → 0 < length q → (get_or q 0 zero_entry).timestamp.0 ≡ u → Any (AtTs u) q
      go [] l e = absurd (omega arith)
      go (x ∷ q) l e = inl e

  -- the head, by its kind
  ran_as : 0 < length (in_order r.waiting) → (k : Kind) → Ran (runs c d (chunk_of t c) (with_waiting r (head_removed r.waiting)) (head r.waiting) k)
  unfolding replied
  ran_as l (Kind.Aborted v) = less_record t c d _ t.places ld rest (λ _. rest-length) (same_net t)
  ran_as l (Kind.Committed v) = less_record t c d _ t.places ld rest (λ _. rest-length) (same_net t)
  ran_as l (Kind.Undecided v) = less_record t c d _ t.places ld rest (λ _. rest-length) (same_net t)
  ran_as l Kind.Read = walk Ran ((head r.waiting).timestamp below r.write) _ _
      (λ _. less_record t c d _ _ ld rest (λ _. rest-length) (one_ok t _ t.places (same_net t) (its l)))
      (λ _. less_record t c d _ _ ld rest (λ _. rest-length) (one_ok t _ t.places (same_net t) (its l)))

  -- run
  pub run-less : 0 < length (in_order r.waiting) → Less (with_arrived t c d (ran c d (chunk_of t c) r)) t
  unfolding ran
  run-less l = subst⁻¹ (λ (x : Table). Less x t) (left_as t c d _ (ran-same (chunk_of t c) c d r)) (ran_as l (head r.waiting).kind)

-- ---- a message that arrives

module _ (t : Table) (f : Formed t) (p : ℕ) (lp : p < place_limit) where
  -- the network without the message
  abbrev n1 : List (Option Message)
  n1 = removed t.places p

  -- it mentions nothing new
  ok1 : NetOk t n1
  ok1 u d z = inr (inl (sent-taken (OfBoth d u) t.places p z))

  -- drop
  pub drop-less : Less (with_places t n1) t
  drop-less = less-places t n1 ok1

  module _ (m : Message) (e : slot_of t.places p ≡ Some m) where
    -- the message is formed
    facts : FormedMessage t.creation m
    facts = message_facts t.creation m (rw e at (f.places p lp))

    -- its chunk
    abbrev c : ℕ
    c = (header_of m).chunk

    -- its block
    abbrev d : ℕ
    d = (header_of m).block

    -- the chunk's place
    place-c : c < chunk_limit
    place-c = chunk-place t.creation c facts.header.chunk f.creation

    -- the block's place
    place-d : d < block_limit
    place-d = ltb-true d block_limit facts.header.block

    -- what it mentions was mentioned
    its_own : (u a : ℕ) → OfBoth a u m → Mention t u a
    its_own u a z = inr (inl (sent-at (OfBoth a u) t.places p m e z))

    -- an arrival mentions nothing new
    abbrev Took : Arrived → Type 0
    Took a = Less (with_places (with_record t c d a.held) (replied n1 a.reply)) t

    -- a reply, the record as it was
    answer : (s : Sort) → Took (answering (chunk_of t c) (record_of t c d) (header_of m) s)
    unfolding replied
    answer s = less_record t c d _ _ place-d (λ u z. inr (inr (c, place-d, z))) (λ s. s.entries c d place-c place-d)
        (one_ok t (message_of (header_of m) s) n1 ok1 (λ u a z. its_own u a (made-both (header_of m) s a u z)))

    -- what waits then waited, or is the message's
    inserts : (k : Epoch) (kind : Kind) → (record_of t c d).waiting.count < waiting_limit → (u : ℕ)
        → Any (AtTs u) (in_order (inserted (record_of t c d).waiting (entry_of (header_of m) k kind))) → Mention t u d
    inserts k kind room u z = elim (insert-to (AtTs u) (entry_of (header_of m) k kind) (in_order (record_of t c d).waiting)
        (subst (Any (AtTs u)) (inserted-order (record_of t c d).waiting (entry_of (header_of m) k kind) room) z)) [
          | inl q ↦ inr (inr (c, place-d, q))
          | inr q ↦ its_own u d (refl, q)
        ]

    -- the array has its length
    inserted-length : (w : Waiting) (x : Entry) → length (inserted w x).entries ≡ waiting_limit
    unfolding inserted
    inserted-length w x = holding-length (insert x (in_order w))

    -- it waits
    took-waits : (k : Epoch) (kind : Kind) → (record_of t c d).waiting.count < waiting_limit
        → Took (waits (chunk_of t c) (record_of t c d) (header_of m) k kind)
    unfolding replied
    took-waits k kind room = walk Took (is_write kind) _ _
        (λ _. less_record t c d _ _ place-d (inserts k kind room) (λ _. inserted-length (record_of t c d).waiting
        (entry_of (header_of m) k kind)) (one_ok t _ n1 ok1 (λ u a z. its_own u a z)))
        (λ _. less_record t c d _ _ place-d (inserts k kind room) (λ _. inserted-length (record_of t c d).waiting
        (entry_of (header_of m) k kind)) ok1)

    -- a read or a prewrite
    took-arrived : (blocks : ℕ) (k : Epoch) (kind : Kind) → Took (arrived blocks (chunk_of t c) (record_of t c d) (header_of m) k kind)
    took-arrived blocks k kind = arrived-walk Took blocks (chunk_of t c) (record_of t c d) (header_of m) k kind
        (λ x. answer (Sort.Refusal x)) (λ z. took-waits k kind z.room)

    -- nothing happens
    same : Took (silent (chunk_of t c) (record_of t c d))
    unfolding replied
    same = less_record t c d _ n1 place-d (λ u z. inr (inr (c, place-d, z))) (λ s. s.entries c d place-c place-d) ok1

    -- a marked list has its length
    marked-length : (commit : Bool) (a : Timestamp) (w : Waiting) → length (marked commit a w).entries ≡ waiting_limit
    unfolding marked
    marked-length commit a w = holding-length (mark commit a (in_order w))

    -- a commit or an abort
    took-decides : (blocks : ℕ) (commit : Bool) → Took (decides blocks (chunk_of t c) (record_of t c d) (header_of m) commit)
    unfolding replied
    took-decides blocks commit = decides-walk Took blocks (chunk_of t c) (record_of t c d) (header_of m) commit
        (λ _. less_record t c d _ n1 place-d
        (λ u z. inr (inr (
          c,
          place-d,
          mark-ts commit (header_of m).timestamp (in_order (record_of t c d).waiting) u
              (subst (Any (AtTs u)) (marked-order (record_of t c d).waiting commit (header_of m).timestamp
              (waiting_of t f c d place-c place-d).count) z),
        )))
        (λ _. marked-length commit (header_of m).timestamp (record_of t c d).waiting) ok1)
        same

    -- at a chunk, by its sort
    took-at : (blocks : ℕ) (s : Sort) → Took (at_chunk blocks (chunk_of t c) (record_of t c d) (header_of m) s)
    unfolding at_chunk
    took-at blocks (Sort.Request k Request.Read) = took-arrived blocks k Kind.Read
    took-at blocks (Sort.Request k (Request.Prewrite v)) = took-arrived blocks k (Kind.Undecided v)
    took-at blocks (Sort.Request k Request.Commit) = took-decides blocks true
    took-at blocks (Sort.Request k Request.Abort) = took-decides blocks false
    took-at blocks (Sort.Refusal x) = same
    took-at blocks (Sort.ReadReply v) = same
    took-at blocks Sort.PrewriteReply = same

    -- .. in any state
    chunk-takes : Took (arrives t.creation.blocks (chunk_of t c) (record_of t c d) m)
    chunk-takes = walk Took (is_normal (chunk_of t c).state) _ _ (λ _. took-at t.creation.blocks (sort_of m)) (λ _. same)

    -- at a host
    host-takes : Less (host_takes (with_places t n1) (header_of m) m) t
    host-takes =
        let k = hears-keeps (host_of t (header_of m).host) m in
        less-host t (header_of m).host _ n1 (kept t (header_of m).host _
        (λ _. ap (λ (q : Queue). get_or (take q.count q.operations) 0 zero_operation) k.queue) k.timestamp)
        (let z = k.clock in omega arith)
        (λ s. ap (λ (q : Queue). length q.operations) k.queue
        ∙ s.queues (header_of m).host (host-place t.creation (header_of m).host facts.header.host f.creation)) ok1

    -- deliver
    pub deliver-less : Less (takes (with_places t n1) (Some m)) t
    deliver-less = walk (λ (x : Table). Less x t) (is_for_chunk (sort_of m)) _ _
        (λ _. subst⁻¹ (λ (x : Table). Less x t) (left_as (with_places t n1) c d _ (arrives-same (chunk_of t c) t.creation.blocks (record_of t c d) m)) chunk-takes)
        (λ _. host-takes)

-- ---- a failure: what waits at other chunks stays

-- fail
pub fail-less : (t : Table) (c : ℕ)
    → Less (with_records (with_chunk t c (failed (chunk_of t c))) (records_by
    (λ a b. cond (eqb a c) (emptied (record_of t a b)) (record_of t a b)))) t
fail-less t c = record {
  ment = λ u d. elim [
    | inl z ↦ inl z
    | inr z ↦ elim z [
      | inl q ↦ inr (inl q)
      | inr q ↦ elim (le_or_lt chunk_limit q.0) [
        | inl l ↦ absurd (subst (λ (r : Record). Any (AtTs u) (in_order r.waiting)) (records-beyond f q.0 d l) q.2)
        | inr l ↦ inr (inr (
          q.0,
          q.1,
          old q.0 d u (eqb q.0 c) (subst (λ (r : Record). Any (AtTs u) (in_order r.waiting))
              (grid-at f chunk_limit block_limit q.0 d no_record l q.1) q.2),
        ))
      ]
    ]
  ];
  clocks = λ j. omega arith;
  shape = λ s. shape-records (with_chunk t c (failed (chunk_of t c))) (shape-chunk t s c (failed (chunk_of t c))) f
      (λ a b l m. long a b s l m (eqb a c));
}
  where
    f : ℕ → ℕ → Record
    f a b = cond (eqb a c) (emptied (record_of t a b)) (record_of t a b)

    old : (a d u : ℕ) (x : Bool) → Any (AtTs u) (in_order (cond x (emptied (record_of t a d)) (record_of t a d)).waiting)
        → Any (AtTs u) (in_order (record_of t a d).waiting)
    old a d u true z = absurd z
    old a d u false z = z

    long : (a b : ℕ) → Shape t → a < chunk_limit → b < block_limit → (x : Bool)
        → length (cond x (emptied (record_of t a b)) (record_of t a b)).waiting.entries ≡ waiting_limit
    long a b s l m true = refl
    long a b s l m false = s.entries a b l m
