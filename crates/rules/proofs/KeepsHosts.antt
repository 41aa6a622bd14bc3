-- The events of hosts keep well-formedness: read, write, start, finish, timeout, refresh, stop; and so does a reply at a host
use Prim.Native.Nat.{ℕ, ◌+◌, ◌*◌, ◌≤◌, ◌<◌}
use mathlib.Core.Path.{◌≡◌, refl, sym, ◌∙◌}
use mathlib.Core.Bool.{Bool, true, false, false≢true}
use mathlib.Core.List.{List, [], ◌∷◌, ◌++◌}
use native.Mathlib.Omega.{arith}
use lib.ListN.{length, drop, length-append, length-drop}
use lib.Dec.{eqb}
use borrow.Author.Tests.{le-leb, lt-ltb, eqb-true, not-true}
use Rattle.rules.specs.Types.{Timestamp, Set, Creation, Action, Operation, Attempt, Host, Message, Table, Operand, Sort}
use Rattle.rules.specs.Codes.{Row, code_of}
use Rattle.rules.specs.Creation.{is_creation, of_store}
use Rattle.rules.specs.Events.{holders_of, host_rule, ◌does◌, kind_of}
use Rattle.rules.specs.Formed.{operation_formed, attempt_formed, host_formed, message_formed}
use Rattle.rules.specs.Hosts.{with_queue, with_attempt, with_result, operations_of, queue_of, front, intake_refusals, appended, only, opening_to, opening, started, suits, counts, answered_by, heard, at_host, closing_to, closing, goes_back, ended, finished, timeout_refusals, timed_out, working_refusals, refreshed, stopped, hears}
use Rattle.rules.specs.Kinds.{is_reading}
use Rattle.rules.specs.Limits.{chunk_limit, block_limit, operation_limit, greatest_clock, greatest_timestamp, one_to}
use Rattle.rules.specs.Messages.{headed, header_of, sort_of}
use Rattle.rules.specs.Network.{free_places, how_many}
use Rattle.rules.specs.Operands.{◌∥◌∥◌}
use Rattle.rules.specs.Tables.{is_host, is_chunk, is_block, host_of, with_host}
use Rattle.rules.specs.Timestamps.{stamp, never, ◌is◌, ◌above◌, is_timestamp}
use Rattle.rules.specs.Words.{every, some, place, from}
use Rattle.rules.specs.Zero.{◌among◌, is_empty, zero_set, zero_attempt, is_zero_attempt}
use Rattle.rules.proofs.Lists.{three, and_true, walk, every_one, every_append, every_drop, each_number, set_all, take_short}
use Rattle.rules.proofs.Messages.{heard_refusal}
use Rattle.rules.proofs.Formed.{one-to, Formed, host-place, chunk-place, block-place, member_some, of_store_lem, is_of_store_lem, set_of_store, queue-facts, operations-length, operations-formed, queue-formed, front-block, FormedAttempt, attempt-facts, attempt-formed, outstanding-current, host-facts, host-formed, FormedHeader, message_facts, message_formed_lem, host_of_lem, queue_of_lem}
use Rattle.rules.proofs.KeepsParts.{Keeps, host-kept, sent-to-each-kept}
use Rattle.rules.proofs.Relies.{intake_place, start_front, finish_current, timeout_outstanding}

module _ (k : Creation) where
  -- ---- attempts, and sets of chunks

  -- no attempt is formed beside any queue
  none-formed : (n : ℕ) → attempt_formed k n zero_attempt ≡ true
  unfolding some from
  none-formed n = refl

  -- an attempt stays formed beside any queue that has an operation
  recounted : (n m : ℕ) (a : Attempt) → attempt_formed k n a ≡ true → 1 ≤ m → attempt_formed k m a ≡ true
  recounted n m a h l = go (a.timestamp above never) refl
    where
      go : (b : Bool) → a.timestamp above never ≡ b → attempt_formed k m a ≡ true
      go true e =
          let f = attempt-facts k n a h e in
          attempt-formed k m a e (record { one = l; timestamp = f.timestamp; outstanding = f.outstanding })
      go false e = let zero : is_zero_attempt a ≡ true = rw e at h in rw e zero

  -- a host with another attempt
  attempted : (h : Host) (a : Attempt) → host_formed k h ≡ true → attempt_formed k h.queue.count a ≡ true
      → host_formed k (with_attempt h a) ≡ true
  attempted h a f e =
      let r = host-facts k h f in
      host-formed k (with_attempt h a) (record { queue = r.queue; attempt = e; epoch = r.epoch; clock = r.clock })

  -- a host with a current attempt
  current : (h : Host) (a : Attempt) → host_formed k h ≡ true → a.timestamp above never ≡ true
      → FormedAttempt k h.queue.count a.timestamp a.outstanding → host_formed k (with_attempt h a) ≡ true
  current h a f e r = attempted h a f (attempt-formed k h.queue.count a e r)

  -- the empty set is the store's
  nobody_of_store : of_store k zero_set ≡ true
  unfolding every from
  nobody_of_store = refl

  -- .. and so is one of the store's chunks alone
  only_of_store : (c : ℕ) → is_chunk k c ≡ true → of_store k (only c) ≡ true
  only_of_store c h = is_of_store_lem k (only c) (λ i l e. rw (sym (eqb-true c i (sym (each_number (eqb c) chunk_limit i false l) ∙ e))) h)

  -- a chunk leaves the set of those outstanding
  answered_of_store : (a : Attempt) (c : ℕ) → of_store k a.outstanding ≡ true → of_store k (answered_by a c).outstanding ≡ true
  answered_of_store a c h =
      is_of_store_lem k (answered_by a c).outstanding
      (set_all (λ i b. i < chunk_limit → b ≡ true → is_chunk k i ≡ true) false a.outstanding.chunks c false
      (λ _ e. absurd (false≢true e)) (of_store_lem k a.outstanding h))

  -- ---- one host

  -- one operation more
  appended-formed : (h : Host) (o : Operation) → host_formed k h ≡ true → is_block k o.block ≡ true
      → h.queue.count < operation_limit → host_formed k (appended h o) ≡ true
  unfolding appended queue_of
  appended-formed h o f e full =
      let r = host-facts k h f in
      let l = operations_of h ++ o ∷ [] in
      let m = length-append (operations_of h) (o ∷ []) in
      let old = operations-formed k h (queue-facts k h.queue r.queue) in
      host-formed k (appended h o) (record {
        queue = queue-formed k l (omega (arith, take_short h.queue.count h.queue.operations))
            (every_append (operation_formed k) (operations_of h) (o ∷ []) ∙ and_true _ _ old (every_one (operation_formed k) o e));
        attempt = recounted h.queue.count (length l) h.attempt r.attempt (omega arith);
        epoch = r.epoch;
        clock = r.clock;
      })

  -- clock and host number make a timestamp
  stamp-formed : (clock host : ℕ) → is_creation k ≡ true → is_host k host ≡ true → one_to greatest_clock clock ≡ true
      → is_timestamp (stamp clock host) ≡ true
  stamp-formed clock host w e c =
      let r = one-to greatest_clock clock c in
      le-leb (clock * 8 + host) greatest_timestamp (omega (arith, r.1, host-place k host e w))

  -- a start: a clock, a timestamp, and the store's chunks outstanding
  started-formed : (h : Host) (clock host : ℕ) (to : Set) → host_formed k h ≡ true → is_timestamp (stamp clock host) ≡ true
      → one_to greatest_clock clock ≡ true → 1 ≤ h.queue.count → of_store k to ≡ true
      → host_formed k (started h (stamp clock host) clock to) ≡ true
  started-formed h clock host to f s c one g =
      let r = host-facts k h f in
      let u = one-to greatest_clock clock c in
      let a = (started h (stamp clock host) clock to).attempt in
      host-formed k (started h (stamp clock host) clock to) (record {
        queue = r.queue;
        attempt = attempt-formed k h.queue.count a (lt-ltb 0 (clock * 8 + host) (omega (arith, u.0)))
            (record { one = one; timestamp = s; outstanding = g });
        epoch = r.epoch;
        clock = le-leb clock greatest_clock u.1;
      })

  -- a finish: no attempt, and the operation goes or stays
  finished-formed : (h : Host) → host_formed k h ≡ true → host_formed k (finished h) ≡ true
  unfolding finished queue_of
  finished-formed h f =
      let r = host-facts k h f in
      let l = drop 1 (operations_of h) in
      let q = queue-facts k h.queue r.queue in
      walk (λ (x : Host). host_formed k x ≡ true) (goes_back h.attempt) (ended h) (with_queue (ended h) (queue_of l))
      (λ _. attempted h zero_attempt f (none-formed h.queue.count))
      (λ _. host-formed k (with_queue (ended h) (queue_of l)) (record {
        queue = queue-formed k l (omega (arith, length-drop 1 (operations_of h), operations-length k h q))
            (every_drop (operation_formed k) 1 (operations_of h) (operations-formed k h q));
        attempt = none-formed (length l);
        epoch = r.epoch;
        clock = r.clock;
      }))

  -- a timeout: nobody outstanding
  timed_out_formed : (h : Host) → host_formed k h ≡ true → is_empty h.attempt.outstanding ≡ false → host_formed k (timed_out h) ≡ true
  timed_out_formed h f e =
      let n = h.queue.count in
      let now = outstanding-current k n h.attempt (host-facts k h f).attempt e in
      let r = attempt-facts k n h.attempt (host-facts k h f).attempt now in
      let a = (timed_out h).attempt in
      current h a f now (record { one = r.one; timestamp = r.timestamp; outstanding = nobody_of_store })

  -- ---- a reply at a host

  -- a reply that counts
  heard-formed : (h : Host) (a : Attempt) (s : Sort) → host_formed k h ≡ true → a.timestamp above never ≡ true
      → FormedAttempt k h.queue.count a.timestamp a.outstanding → host_formed k (heard h a s) ≡ true
  heard-formed h a (Sort.Refusal x) f e r =
      let now = heard h a (Sort.Refusal x) in
      let q = heard_refusal h a x in
      let g : host_formed k (with_attempt h now.attempt) ≡ true = current h now.attempt f (rw q.timestamp e) (rw (q.timestamp, q.outstanding) r) in
      rw (q.queue, q.epoch, q.clock) g
  heard-formed h a (Sort.ReadReply v) f e r = current h (with_result a v) f e r
  heard-formed h a Sort.PrewriteReply f e r = current h a f e r
  heard-formed h a (Sort.Request epoch q) f e r = f

  -- any message: one that counts finds its chunk outstanding, so there is a current operation
  at-host-formed : (h : Host) (m : Message) → is_creation k ≡ true → host_formed k h ≡ true → message_formed k m ≡ true
      → host_formed k (at_host h m) ≡ true
  unfolding at_host
  at-host-formed h m w f g =
      let a = h.attempt in
      let c = (header_of m).chunk in
      walk (λ (x : Host). host_formed k x ≡ true) (counts h m) (heard h (answered_by a c) (sort_of m)) h (λ e.
      let member = (three ((header_of m).timestamp is a.timestamp) (c among a.outstanding) (suits (is_reading (front h).action) (sort_of m)) e).1 in
      let l = chunk-place k c (message_facts k m g).header.chunk w in
      let now = outstanding-current k h.queue.count a (host-facts k h f).attempt (member_some a.outstanding c l member) in
      let r = attempt-facts k h.queue.count a (host-facts k h f).attempt now in
      let left = answered_of_store a c r.outstanding in
      heard-formed h (answered_by a c) (sort_of m) f now (record { one = r.one; timestamp = r.timestamp; outstanding = left }))
      (λ _. f)

  -- .. a host that is stopped too
  pub hears-formed : (h : Host) (m : Message) → is_creation k ≡ true → host_formed k h ≡ true → message_formed k m ≡ true
      → host_formed k (hears h m) ≡ true
  hears-formed h m w f g = walk (λ (x : Host). host_formed k x ≡ true) h.working _ _ (λ _. at-host-formed h m w f g) (λ _. f)

  -- ---- the messages of start and finish go to the store's chunks

  opening_of_store : (a : Action) (copy : ℕ) (holders : Set) → is_chunk k copy ≡ true → of_store k holders ≡ true
      → of_store k (opening_to a copy holders) ≡ true
  opening_of_store Action.Read copy holders h g = only_of_store copy h
  opening_of_store (Action.Write v) copy holders h g = g

  closing_of_store : (a : Action) (holders : Set) → of_store k holders ≡ true → of_store k (closing_to a holders) ≡ true
  closing_of_store Action.Read holders g = nobody_of_store
  closing_of_store (Action.Write v) holders g = g

-- ---- the events

module _ (t : Table) where
  abbrev creation : Creation
  creation = t.creation

  -- read and write
  intake_kept : (host : ℕ) (o : Operation) → Formed t → is_host creation host ≡ true → is_block creation o.block ≡ true
      → code_of (intake_refusals (host_of t host)) ≡ 0 → Formed (with_host t host (appended (host_of t host) o))
  intake_kept host o f e g p =
      let h = host_of t host in
      host-kept t f host (appended h o) e (appended-formed creation h o (host_of_lem t f host e) g (intake_place h p))

  -- 1 read
  pub read_kept : Keeps t (kind_of 1)
  unfolding kind_of place
  read_kept host _ _ f e p = let r = three _ _ _ e in intake_kept host _ f r.0 r.1 p

  -- 2 write
  pub write_kept : Keeps t (kind_of 2)
  unfolding kind_of place
  write_kept host _ _ f e p = let r = three _ _ _ e in intake_kept host _ f r.0 r.1 p

  -- the front operation of a host of the store's: its block's set, and the headers of its messages
  module _ (f : Formed t) (host : ℕ) (e : is_host creation host ≡ true) (one : 1 ≤ (host_of t host).queue.count) where
    abbrev block : ℕ
    block = (front (host_of t host)).block

    front_of : is_block creation block ≡ true
    front_of = front-block creation (host_of t host) (queue_of_lem t f host e) one

    holders_of_lem : of_store creation (holders_of t.creation (host_of t host)) ≡ true
    holders_of_lem = set_of_store creation block f.creation front_of

    header_of_lem : (s : Timestamp) → is_timestamp s ≡ true → (c : ℕ) → is_chunk creation c ≡ true → FormedHeader creation (headed host c block s)
    header_of_lem s g c h =
        let l = lt-ltb block block_limit (block-place creation block front_of f.creation) in
        record { host = e; chunk = h; block = l; timestamp = g }

  -- 3 start
  pub start_kept : Keeps t (kind_of 3)
  unfolding kind_of place
  start_kept host clock copy f e p =
      let h = host_of t host in
      let o = front h in
      let to = opening_to o.action copy (holders_of t.creation h) in
      let r = three _ _ _ e in
      let one = start_front h clock copy (holders_of t.creation h) (free_places t.places) (how_many to) p in
      let g = host_of_lem t f host r.0 in
      let now = stamp clock host in
      let s = stamp-formed creation clock host f.creation r.0 r.1 in
      let ours = opening_of_store creation o.action copy (holders_of t.creation h) r.2 (holders_of_lem f host r.0 one) in
      sent-to-each-kept (with_host t host (started h now clock to))
      (host-kept t f host (started h now clock to) r.0 (started-formed creation h clock host to g s r.1 one ours)) to _ ours
      (λ c q. message_formed_lem creation (headed host c o.block now) (Sort.Request h.epoch (opening o.action))
      (header_of_lem f host r.0 one now s c q) (host-facts creation h g).epoch)

  -- 6 finish
  pub finish_kept : Keeps t (kind_of 6)
  unfolding kind_of place
  finish_kept host _ _ f e p =
      let h = host_of t host in
      let o = front h in
      let to = closing_to o.action (holders_of t.creation h) in
      let r = three _ _ _ e in
      let has = finish_current h (free_places t.places) (how_many to) p in
      let now = h.attempt.timestamp in
      let g = host_of_lem t f host r.0 in
      let a = attempt-facts creation h.queue.count h.attempt (host-facts creation h g).attempt has in
      sent-to-each-kept (with_host t host (finished h)) (host-kept t f host (finished h) r.0 (finished-formed creation h g)) to _
      (closing_of_store creation o.action (holders_of t.creation h) (holders_of_lem f host r.0 a.one))
      (λ c q. message_formed_lem creation (headed host c o.block now) (Sort.Request h.epoch (closing h.attempt.okay))
      (header_of_lem f host r.0 a.one now a.timestamp c q) (host-facts creation h g).epoch)

  -- an event of one host alone
  alone_kept : (refusals : Host → List Row) (change : Host → Host)
      → (Formed t → (h : Host) → host_formed creation h ≡ true → code_of (refusals h) ≡ 0 → host_formed creation (change h) ≡ true)
      → Keeps t (Operand.Host ∥ Operand.Unused ∥ Operand.Unused does (λ t host _ _. host_rule t host refusals change))
  alone_kept refusals change g host _ _ f e p =
      let r = three _ _ _ e in
      host-kept t f host (change (host_of t host)) r.0 (g f (host_of t host) (host_of_lem t f host r.0) p)

  -- 7 timeout
  pub timeout_kept : Keeps t (kind_of 7)
  unfolding kind_of place
  timeout_kept =
      alone_kept timeout_refusals timed_out (λ f h g p.
      timed_out_formed creation h g (not-true (is_empty h.attempt.outstanding) (timeout_outstanding h p)))

  -- 8 refresh
  pub refresh_kept : Keeps t (kind_of 8)
  unfolding kind_of place
  refresh_kept =
      alone_kept working_refusals (λ h. refreshed h t.epoch) (λ f h g _.
      let r = host-facts creation h g in
      host-formed creation (refreshed h t.epoch) (record { queue = r.queue; attempt = r.attempt; epoch = f.epoch; clock = r.clock }))

  -- 10 stop
  pub stop_kept : Keeps t (kind_of 10)
  unfolding kind_of place
  stop_kept = alone_kept working_refusals stopped (λ f h g _. g)
