-- The events of a host keep a table good
use Rattle.std.specs.Prelude.{Option}
use Prim.Native.Nat.{ℕ, ◌≤◌, ◌<◌}
use mathlib.Core.Path.{◌≡◌, refl, sym, subst, subst⁻¹, ◌∙◌, ap}
use mathlib.Core.Logic.{◌⊎◌, inl, inr}
use mathlib.Core.Bool.{Bool, true, false, cond, not, ◌&&◌}
use mathlib.Core.List.{List, [], ◌∷◌}
use native.Mathlib.Omega.{arith}
use lib.ListN.{drop}
use lib.Seq.{get_or-set_same}
use lib.Dec.{eqb}
use borrow.Author.Tests.{ltb-true, leb-false, eqb-true, eq-eqb, ne_eqb, not-false}
use Rattle.one_copy.specs.Types.{Set, Action, Operation, Host, Message, Request, Sort, Table, Outcome}
use Rattle.one_copy.specs.Listed.{Write, write_of, by_host}
use Rattle.rules.specs.Codes.{code_of}
use Rattle.rules.specs.Events.{holders_of}
use Rattle.rules.specs.Hosts.{operations_of, queue_of, front, appended, start_refusals, only, opening_to, opening, started, finish_refusals, closing_to, closing, done_as, failed_as, goes_back, finish_outcome, ended, finished, timed_out, refreshed, stopped, with_queue}
use Rattle.rules.specs.Kinds.{is_reading}
use Rattle.rules.specs.Limits.{host_limit, chunk_limit, operation_limit}
use Rattle.rules.specs.Messages.{headed, asking}
use Rattle.rules.specs.Network.{sent_to_each}
use Rattle.rules.specs.Tables.{is_host, is_chunk, is_block, set_of, host_of, with_host, with_places}
use Rattle.rules.specs.Timestamps.{stamp}
use Rattle.rules.specs.Words.{those, each, every, fold, from}
use Rattle.rules.specs.Zero.{◌among◌, is_empty, zero_set, no_host}
use Rattle.rules.proofs.Formed.{Formed, host-place}
use Rattle.rules.proofs.Lists.{walk, each_number}
use Rattle.rules.proofs.Refusals.{granted_exactly}
use Rattle.rules.proofs.Relies.{finish_current}
use Rattle.one_copy.proofs.Tests.{at, eq_or_ne, not-both}
use Rattle.one_copy.proofs.Abs.{read_k, write_k, read_k≢write_k}
use Rattle.one_copy.proofs.Net.{sent-each}
use Rattle.one_copy.proofs.View.{Hist, part_of, Seat, seat_of, seats_of, written, HasW, NetLe, net_less, net_foreign, far_message, CInv, Quiet, quiet}
use Rattle.one_copy.proofs.Hosts.{begins, lists, answers, start_other, begin_write, begin_read, end-commit, end-abort, end-other, end_read}
use Rattle.one_copy.proofs.Shapes.{Shape, front_kept, at_front}
use Rattle.one_copy.proofs.Good.{In, Good, inside, holder, good-host, Trying, Next, none_done, unnoted}

-- the operation is as it was, where there is an attempt
pub record SameOp (x y : Seat) : Type 0 where
  pub block : 0 < y.ts → y.block ≡ x.block
  pub write : 0 < y.ts → y.write ≡ x.write
  pub value : 0 < y.ts → y.value ≡ x.value

module _ (S : ℕ → Type 0) (b : ℕ) (n : List (Option Message)) (ep : ℕ) (x y : Seat) (so : SameOp x y) (et : y.ts ≡ x.ts)
    (ec : y.clock ≡ x.clock) (kn : y.known ≤ ep) where
  -- a host with a timestamp is at work
  at_work : (t : ℕ) → y.ts ≡ t → 0 < t → 0 < y.ts
  at_work t e p = omega arith

  -- its write is the same
  same_w : (t : ℕ) → HasW b y t → HasW b x t
  same_w t z = let p = at_work t z.stamp z.pos in record {
    stamp = sym et ∙ z.stamp;
    pos = z.pos;
    write =
        sym (so.write p) ∙ z.write;
    block = sym (so.block p) ∙ z.block;
  }

  -- the host is as it was in all that counts
  pub same-host : y.out ≡ x.out → y.okay ≡ x.okay → y.result ≡ x.result → Quiet S b n ep x y
  same-host eu ek er = record {
    w = same_w;
    okay = λ t z k. sym ek ∙ k;
    out = λ t z k c q. inl (sym (ap (λ (l : Set). c among l) eu) ∙ q);
    r = λ t v z. let p = at_work t z.stamp z.pos in
        inl (record {
          stamp = sym et ∙ z.stamp;
          pos = z.pos;
          write = sym (so.write p) ∙ z.write;
          block =
              sym (so.block p) ∙ z.block;
          okay = sym ek ∙ z.okay;
          none = sym (ap is_empty eu) ∙ z.none;
          value = sym er ∙ z.value;
        });
    value = λ t z. so.value (at_work t z.stamp z.pos);
    ts = inr et;
    clock = ec;
    known = kn;
  }

  -- a host whose attempt is not okay says nothing
  pub sour-host : y.okay ≡ false → Quiet S b n ep x y
  sour-host ek = record {
    w = same_w;
    okay = λ t z k. absurd (not-both y.okay k ek);
    out = λ t z k. absurd (not-both y.okay k ek);
    r = λ t v z. absurd (not-both y.okay z.okay ek);
    value = λ t z. so.value (at_work t z.stamp z.pos);
    ts = inr et;
    clock = ec;
    known = kn;
  }

-- the same front operation is the same operation
pub front_same : (x y : Host) → front y ≡ front x → SameOp (seat_of x) (seat_of y)
front_same x y e = record {
  block = λ _. ap (λ (o : Operation). o.block) e;
  write = λ _. ap (λ (o : Operation). not (is_reading o.action)) e;
  value = λ _. ap (λ (o : Operation). written o.action) e;
}

-- the same messages
pub net_same : (b : ℕ) (n : List (Option Message)) → NetLe b n n
net_same b n = net_less b n n (λ P z. z)

-- ---- where a finish leaves the host

-- no timestamp, the clock and the epoch known as they were
ended_seat : (x : Host) (t : Bool) → ((seat_of (cond t (ended x) (with_queue (ended x) (queue_of (drop 1 (operations_of x)))))).ts ≡ 0)
    × ((seat_of (cond t (ended x) (with_queue (ended x) (queue_of (drop 1 (operations_of x)))))).clock ≡ x.clock)
    × ((seat_of (cond t (ended x) (with_queue (ended x) (queue_of (drop 1 (operations_of x)))))).known ≡ x.epoch.0)
ended_seat x true = (refl, refl, refl)
ended_seat x false = (refl, refl, refl)

-- so after a finish
finished_seat : (x : Host) → ((seat_of (finished x)).ts ≡ 0) × ((seat_of (finished x)).clock ≡ x.clock)
    × ((seat_of (finished x)).known ≡ x.epoch.0)
unfolding finished
finished_seat x = ended_seat x (goes_back x.attempt)

-- a message to each chunk of the empty set is none
none-sent : (n : List (Option Message)) (f : ℕ → Message) → sent_to_each n zero_set f ≡ n
unfolding sent_to_each those each fold from
none-sent n f = refl

-- the only chunk of a set of one
only_at : (c d : ℕ) → d < chunk_limit → d among only c ≡ eqb c d
only_at c d l = each_number (eqb c) chunk_limit d false l

module _ (b : ℕ) (h : Hist) (t : Table) (f : Formed t) (s : Shape t) (lb : is_block t.creation b ≡ true) (i : Good b h t) (j : ℕ)
    (lj : is_host t.creation j ≡ true) where
  -- the host
  abbrev x : Host
  x = host_of t j

  -- the chunks of the set
  abbrev S : ℕ → Type 0
  S = In t.creation b

  -- the host's place
  small : j < host_limit
  small = host-place t.creation j lj f.creation

  -- a quiet change of the host
  pub host-quiet : (y : Host) → Quiet S b t.places t.epoch.0 (seats_of t j) (seat_of y) → Next b h t [] Outcome.None (with_host t j y)
  host-quiet y q = unnoted b h t (with_host t j y) (good-host b h t s j y t.places small
      (quiet S b h t.epoch.0 (seats_of t) (part_of t b) t.places i j (seat_of y) t.places (net_same b t.places) q))

  -- intake
  pub ev_intake : (o : Operation) → x.queue.count < operation_limit → Next b h t [] Outcome.None (with_host t j (appended x o))
  unfolding appended
  ev_intake o k = host-quiet (appended x o) (same-host S b t.places t.epoch.0 (seats_of t j) (seat_of (appended x o)) (record {
    block = λ p. ap (λ (o : Operation). o.block) (front_kept x o (at_front t f s j lj p) k);
    write = λ p. ap (λ (o : Operation). not (is_reading o.action)) (front_kept x o (at_front t f s j lj p) k);
    value = λ p. ap (λ (o : Operation). written o.action) (front_kept x o (at_front t f s j lj p) k);
  }) refl refl (i.known j) refl refl refl)

  -- timeout
  pub ev_timeout : Next b h t [] Outcome.None (with_host t j (timed_out x))
  ev_timeout = host-quiet (timed_out x) (sour-host S b t.places t.epoch.0 (seats_of t j) (seat_of (timed_out x))
      (front_same x (timed_out x) refl) refl refl (i.known j) refl)

  -- refresh
  pub ev_refresh : Next b h t [] Outcome.None (with_host t j (refreshed x t.epoch))
  ev_refresh = host-quiet (refreshed x t.epoch) (same-host S b t.places t.epoch.0 (seats_of t j)
      (seat_of (refreshed x t.epoch)) (front_same x (refreshed x t.epoch) refl) refl refl (omega arith) refl refl refl)

  -- stop
  pub ev_stop : Next b h t [] Outcome.None (with_host t j (stopped x))
  ev_stop = host-quiet (stopped x) (same-host S b t.places t.epoch.0 (seats_of t j) (seat_of (stopped x))
      (front_same x (stopped x) refl) refl refl (i.known j) refl refl refl)

  -- ---- start

  module _ (clock copy : ℕ) (lc : is_chunk t.creation copy ≡ true) where
    -- where the messages go
    abbrev to : Action → Set
    to a = opening_to a copy (holders_of t.creation x)

    -- the table after the start
    abbrev after : Action → Table
    after a = with_places (with_host t j (started x (stamp clock j) clock (to a)))
        (sent_to_each t.places (to a) (λ c. asking (headed j c (front x).block (stamp clock j)) x.epoch (opening a)))

    -- by the operation, and by its block: this one or another
    start_as : x.clock < clock → (a : Action) → (front x).action ≡ a → is_reading a && not (copy among holders_of t.creation x) ≡ false
        → ((front x).block ≡ b) ⊎ ((front x).block ≡ b → ⊥)
        → Next b h t [] Outcome.None (after a)
    start_as lt (Action.Write v) ea ok (inl eb) = record {
      hist = begins h (stamp clock j).0 write_k y.value x.epoch.0;
      good = good-host b (begins h (stamp clock j).0 write_k y.value x.epoch.0) t s j
          (started x (stamp clock j) clock (holders_of t.creation x)) n small
          (begin_write S (inside t f b lb) b h t.epoch.0 (seats_of t) (part_of t b) t.places i j clock small lt y refl refl
          (i.known j) n x.epoch
          (λ P z. elim (sent-each P m (holders_of t.creation x) t.places z) [
            | inl q ↦ inl q
            | inr q ↦ inr (
              q.0,
              subst (λ d. P (asking (headed j q.0 d (stamp clock j)) x.epoch (Request.Prewrite y.value))) eb
                  (subst (λ u. P (asking (headed j q.0 (front x).block (stamp clock j)) x.epoch (Request.Prewrite u)))
                  (sym (ap written ea)) q.3),
            )
          ])
          (i.known j) (rw ea refl) eb (λ c z. rw eb z.1) (holder t f b lb).0 (holder t f b lb).1);
      listed = refl;
      kept = λ u w z. z;
      done = λ k w q. absurd (none_done k b w q);
      began = λ u. new u (eqb u (stamp clock j).0) refl;
    }
      where
        y : Seat
        y = seat_of (started x (stamp clock j) clock (holders_of t.creation x))

        now : Host
        now = started x (stamp clock j) clock (holders_of t.creation x)

        here : host_of (with_host t j now) j ≡ now
        here = get_or-set_same t.hosts j now no_host (omega (arith, small, s.hosts))

        new : (u : ℕ) (z : Bool) → eqb u (stamp clock j).0 ≡ z → cond z write_k (h.kind u) ≡ write_k
            → ((h.kind u ≡ write_k) × (cond z y.value (h.value u) ≡ h.value u)) ⊎ Trying b (after (Action.Write v)) u (cond z y.value (h.value u))
        new u true e q = inr (record {
          host = j;
          place = small;
          at = subst⁻¹ (λ (k : Host). HasW b (seat_of k) u) here
              (record { stamp = sym (eqb-true u (stamp clock j).0 e); pos = omega (arith, eqb-true u (stamp clock j).0 e, lt); write = rw ea refl; block = eb });
          value = ap (λ (k : Host). (seat_of k).value) here;
        })
        new u false e q = inl (q, refl)

        m : ℕ → Message
        m c = asking (headed j c (front x).block (stamp clock j)) x.epoch (Request.Prewrite v)

        n : List (Option Message)
        n = sent_to_each t.places (holders_of t.creation x) m
    start_as lt Action.Read ea ok (inl eb) = record {
      hist = begins h (stamp clock j).0 read_k 0 x.epoch.0;
      good = good-host b (begins h (stamp clock j).0 read_k 0 x.epoch.0) t s j (started x (stamp clock j) clock (only copy)) n small
          (begin_read S (inside t f b lb) b h t.epoch.0 (seats_of t) (part_of t b) t.places i j clock small lt y refl refl
          (i.known j) n copy x.epoch 0
          (λ P z. elim (sent-each P m (only copy) t.places z) [
            | inl q ↦ inl q
            | inr q ↦ (let e : copy ≡ q.0 = eqb-true copy q.0 (sym (only_at copy q.0 q.1) ∙ q.2) in
                inr (subst (λ d. P (asking (headed j copy d (stamp clock j)) x.epoch Request.Read)) eb
                (subst (λ d. P (asking (headed j d (front x).block (stamp clock j)) x.epoch Request.Read)) (sym e) q.3)))
          ])
          (rw ea refl) (only_at copy copy (inside t f b lb copy held) ∙ eq-eqb copy copy refl) held);
      listed = refl;
      kept = λ u w z. z;
      done = λ k w q. absurd (none_done k b w q);
      began = λ u. old u (eqb u (stamp clock j).0);
    }
      where
        old : (u : ℕ) (z : Bool) → cond z read_k (h.kind u) ≡ write_k
            → ((h.kind u ≡ write_k) × (cond z 0 (h.value u) ≡ h.value u)) ⊎ Trying b (after Action.Read) u (cond z 0 (h.value u))
        old u true q = absurd (read_k≢write_k q)
        old u false q = inl (q, refl)

        y : Seat
        y = seat_of (started x (stamp clock j) clock (only copy))

        m : ℕ → Message
        m c = asking (headed j c (front x).block (stamp clock j)) x.epoch Request.Read

        n : List (Option Message)
        n = sent_to_each t.places (only copy) m

        held : In t.creation b copy
        held = (lc, subst (λ d. copy among set_of t.creation d ≡ true) eb (not-false (copy among holders_of t.creation x) ok))
    start_as lt a ea ok (inr far) = unnoted b h t (after a) (good-host b h t s j (started x (stamp clock j) clock (to a)) n small
        (start_other S (inside t f b lb) b h t.epoch.0 (seats_of t) (part_of t b) t.places i j clock small lt
        (seat_of (started x (stamp clock j) clock (to a))) refl refl (i.known j) n
        (net_foreign b n t.places ℕ m (λ P z. elim (sent-each P m (to a) t.places z) [ inl q ↦ inl q | inr q ↦ inr (q.0, q.3) ])
        (λ c. far_message b (headed j c (front x).block (stamp clock j)) (Sort.Request x.epoch (opening a)) far)) far))
      where
        m : ℕ → Message
        m c = asking (headed j c (front x).block (stamp clock j)) x.epoch (opening a)

        n : List (Option Message)
        n = sent_to_each t.places (to a) m

    -- start
    pub ev_start : (free messages : ℕ) → code_of (start_refusals x clock copy (holders_of t.creation x) free messages) ≡ 0
        → Next b h t [] Outcome.None (after (front x).action)
    unfolding every
    ev_start free messages e =
        let row = (granted_exactly (start_refusals x clock copy (holders_of t.creation x) free messages) refl).0 e in
        start_as (leb-false clock x.clock (row 5 (omega arith))) (front x).action refl (row 4 (omega arith))
        (eq_or_ne (front x).block b)

  -- ---- finish

  -- the outcome of a finish
  abbrev outcome_of : Action → Bool → Outcome
  outcome_of a o = cond o (done_as j (front x) a x.attempt.result) (cond x.attempt.restart Outcome.None (failed_as j (front x) a))

  -- the table after it
  abbrev closed : Action → Bool → Table
  closed a o = with_places (with_host t j (finished x))
      (sent_to_each t.places (closing_to a (holders_of t.creation x)) (λ c. asking (headed j c (front x).block x.attempt.timestamp)
      x.epoch (closing o)))

  -- what it commits
  abbrev commits : Action → Bool → List Write
  commits a o = cond (o && eqb (front x).block b) (write_of x.attempt.timestamp a) []

  -- an outcome that reads nothing
  abbrev Idle : Outcome → Type 0
  Idle o = (k v : ℕ) → o ≡ Outcome.ReadDone k b v → ⊥

  -- a restart and a failure
  failing : (r : Bool) (a : Action) → Idle (cond r Outcome.None (failed_as j (front x) a))
  failing true a k v q = none_done k b v q
  failing false Action.Read k v q = let z : ◌≡◌ {A = ℕ} 0 1 = cc in omega arith
  failing false (Action.Write w) k v q = let z : ◌≡◌ {A = ℕ} 0 1 = cc in omega arith

  -- done, at another block
  far-done : (a : Action) → ((front x).block ≡ b → ⊥) → Idle (done_as j (front x) a x.attempt.result)
  far-done Action.Read far k v q = far cc
  far-done (Action.Write w) far k v q = let z : ◌≡◌ {A = ℕ} 0 1 = cc in omega arith

  -- such an outcome with a good table, where nothing is committed
  idly : (o : Outcome) (ws : List Write) (t' : Table) → ws ≡ [] → Idle o → Good b h t' → Next b h t ws o t'
  idly o ws t' e r g = record {
    hist = h;
    good = g;
    listed = rw e refl;
    kept = λ u v z. z;
    done = λ k v q. absurd (r k v q);
    began = λ u q. inl (q, refl);
  }

  -- another block's write is not this one's
  far-commits : (a : Action) (o : Bool) → ((front x).block ≡ b → ⊥) → commits a o ≡ []
  far-commits a true far = rw (ne_eqb (front x).block b far) refl
  far-commits a false far = refl

  -- a read writes nothing
  read-commits : (o : Bool) → commits Action.Read o ≡ []
  read-commits o = walk (λ (l : List Write). l ≡ []) (o && eqb (front x).block b) [] [] (λ _. refl) (λ _. refl)

  module _ (pos : 0 < x.attempt.timestamp.0) (out : is_empty x.attempt.outstanding ≡ true) where
    -- where the host is left
    left : ((seat_of (finished x)).ts ≡ 0) × ((seat_of (finished x)).clock ≡ x.clock) × ((seat_of (finished x)).known ≡ x.epoch.0)
    left = finished_seat x

    -- what it knows
    knows : (seat_of (finished x)).known ≤ t.epoch.0
    knows = let z = i.known j in omega (arith, left.2)

    -- nothing of block b, or nothing that counts
    finish_other : (a : Action) (o : Bool)
        → NetLe b (sent_to_each t.places (closing_to a (holders_of t.creation x))
        (λ c. asking (headed j c (front x).block x.attempt.timestamp) x.epoch (closing o))) t.places
        → Good b h (closed a o)
    finish_other a o le = good-host b h t s j (finished x) _ small
        (end-other S (inside t f b lb) b h t.epoch.0 (seats_of t) (part_of t b) t.places i j (seat_of (finished x)) left.0
        left.1 knows _ le)

    -- a read sends nothing
    read_net : (o : Bool) → NetLe b
        (sent_to_each t.places zero_set (λ c. asking (headed j c (front x).block x.attempt.timestamp) x.epoch (closing o))) t.places
    read_net o = subst (λ (n : List (Option Message)). NetLe b n t.places) (sym
        (none-sent t.places (λ c. asking (headed j c (front x).block x.attempt.timestamp) x.epoch (closing o)))) (net_same b t.places)

    -- a write of another block sends nothing of this one
    far_net : (to : Set) (o : Bool) → ((front x).block ≡ b → ⊥) → NetLe b
        (sent_to_each t.places to (λ c. asking (headed j c (front x).block x.attempt.timestamp) x.epoch (closing o))) t.places
    far_net to o far = net_foreign b _ t.places ℕ m
        (λ P z. elim (sent-each P m to t.places z) [ inl q ↦ inl q | inr q ↦ inr (q.0, q.3) ])
        (λ c. far_message b (headed j c (front x).block x.attempt.timestamp) (Sort.Request x.epoch (closing o)) far)
      where
        m : ℕ → Message
        m c = asking (headed j c (front x).block x.attempt.timestamp) x.epoch (closing o)

    -- it is at a write of block b
    has_w : (v : ℕ) → (front x).action ≡ Action.Write v → (front x).block ≡ b → HasW b (seats_of t j) x.attempt.timestamp.0
    has_w v ea eb = record { stamp = refl; pos = pos; write = rw ea refl; block = eb }

    -- by the operation, whether it is okay, and its block
    finish_as : (a : Action) → (front x).action ≡ a → (o : Bool) → x.attempt.okay ≡ o → ((front x).block ≡ b) ⊎ ((front x).block ≡ b → ⊥)
        → Next b h t (commits a o) (outcome_of a o) (closed a o)
    finish_as (Action.Write v) ea true eo (inl eb) = record {
      hist = lists h (mine ∷ []);
      good = good-host b (lists h (mine ∷ [])) t s j (finished x) _ small
          (end-commit S (inside t f b lb) b h t.epoch.0 (seats_of t) (part_of t b) t.places i j (seat_of (finished x)) left.0
          left.1 knows _ x.attempt.timestamp x.epoch (has_w v ea eb) eo out
          (λ P z. elim (sent-each P (λ c. asking (headed j c (front x).block x.attempt.timestamp) x.epoch Request.Commit)
          (holders_of t.creation x) t.places z) [
            | inl q ↦ inl q
            | inr q ↦ inr (q.0, subst (λ d. P (asking (headed j q.0 d x.attempt.timestamp) x.epoch Request.Commit)) eb q.3)
          ]));
      listed = rw (eq-eqb (front x).block b eb, ea) refl;
      kept = λ u w z. z;
      done = λ k w q. absurd (let z : ◌≡◌ {A = ℕ} 0 1 = cc in omega arith);
      began = λ u q. inl (q, refl);
    }
      where
        mine : Write
        mine = record { timestamp = x.attempt.timestamp; value = written (front x).action }
    finish_as (Action.Write v) ea false eo (inl eb) = idly (outcome_of (Action.Write v) false) [] _ refl
        (failing x.attempt.restart (Action.Write v)) (good-host b h t s j (finished x) _ small
        (end-abort S (inside t f b lb) b h t.epoch.0 (seats_of t) (part_of t b) t.places i j (seat_of (finished x)) left.0
        left.1 knows _ x.attempt.timestamp x.epoch (has_w v ea eb) eo
        (λ P z. elim (sent-each P (λ c. asking (headed j c (front x).block x.attempt.timestamp) x.epoch Request.Abort) (holders_of t.creation x)
        t.places z) [
          | inl q ↦ inl q
          | inr q ↦ inr (q.0, subst (λ d. P (asking (headed j q.0 d x.attempt.timestamp) x.epoch Request.Abort)) eb q.3)
        ])))
    finish_as (Action.Write v) ea true eo (inr far) = idly (outcome_of (Action.Write v) true) _ _ (far-commits (Action.Write v) true far) (far-done (Action.Write v) far)
        (finish_other (Action.Write v) true (far_net (holders_of t.creation x) true far))
    finish_as (Action.Write v) ea false eo (inr far) = idly (outcome_of (Action.Write v) false) [] _ refl
        (failing x.attempt.restart (Action.Write v)) (finish_other (Action.Write v) false (far_net (holders_of t.creation x) false far))
    finish_as Action.Read ea true eo (inl eb) = record {
      hist = answers h (record { timestamp = x.attempt.timestamp; value = x.attempt.result });
      good = good-host b (answers h (record { timestamp = x.attempt.timestamp; value = x.attempt.result })) t s j (finished x) _ small
          (subst⁻¹ (λ (n : List (Option Message)). CInv S b (answers h (record { timestamp = x.attempt.timestamp; value = x.attempt.result }))
          t.epoch.0 (at j (seat_of (finished x)) (seats_of t)) (part_of t b) n) (none-sent t.places _)
          (end_read S (inside t f b lb) b h t.epoch.0 (seats_of t) (part_of t b) t.places i j (seat_of (finished x)) left.0
          left.1 knows x.attempt.timestamp x.attempt.result
          (record { stamp = refl; pos = pos; write = rw ea refl; block = eb; okay = eo; none = out; value = refl })));
      listed = rw (read-commits true) refl;
      kept = λ u w z. inr z;
      done = λ k w q. let e : j ≡ k = cc in inl (ap (λ (a : ℕ). (host_of t a).attempt.timestamp.0) e, cc);
      began = λ u q. inl (q, refl);
    }
    finish_as Action.Read ea true eo (inr far) = idly (outcome_of Action.Read true) _ _ (read-commits true) (far-done Action.Read far)
        (finish_other Action.Read true (read_net true))
    finish_as Action.Read ea false eo d = idly (outcome_of Action.Read false) _ _ (read-commits false) (failing x.attempt.restart Action.Read)
        (finish_other Action.Read false (read_net false))

  -- finish
  pub ev_finish : (free messages : ℕ) → code_of (finish_refusals x free messages) ≡ 0
      → Next b h t (by_host b x) (finish_outcome j x) (closed (front x).action x.attempt.okay)
  unfolding every finish_outcome
  ev_finish free messages e =
      let row = (granted_exactly (finish_refusals x free messages) refl).0 e in
      finish_as (ltb-true 0 x.attempt.timestamp.0 (finish_current x free messages e))
      (not-false (is_empty x.attempt.outstanding) (row 2 (omega arith)))
      (front x).action refl x.attempt.okay refl (eq_or_ne (front x).block b)
