-- Delivery keeps a table good
use Rattle.std.specs.Prelude.{None, Option, Some}
use Prim.Native.Nat.{ℕ, ◌<◌}
use mathlib.Core.Path.{◌≡◌, refl, sym, subst⁻¹, ◌∙◌, ap}
use mathlib.Core.Logic.{◌⊎◌, inl, inr}
use mathlib.Core.Bool.{Bool, true, false, not, ◌||◌, true≢false}
use mathlib.Core.List.{List, []}
use native.Mathlib.Omega.{arith}
use lib.ListN.{get_or, take}
use lib.Seq.{get_or-set_other}
use borrow.Author.Tests.{ltb-true, ltb-false, eqb-true}
use Rattle.one_copy.specs.Types.{Timestamp, Epoch, Kind, Entry, Queue, Host, Header, Message, Request, Refusal, Sort, Table, Arrived, Outcome}
use Rattle.rules.specs.Chunks.{with_waiting, silent, is_out_of_order, entry_of, waits, arrived, decides, at_chunk, arrives}
use Rattle.rules.specs.Events.{host_takes, takes}
use Rattle.rules.specs.Hosts.{front, counts, answered_by, heard, at_host, hears}
use Rattle.rules.specs.Kinds.{is_normal, is_reading}
use Rattle.rules.specs.Limits.{chunk_limit, block_limit, place_limit, waiting_limit}
use Rattle.rules.specs.Messages.{header_of, sort_of, message_of, is_for_chunk}
use Rattle.rules.specs.Network.{removed, sent, replied}
use Rattle.rules.specs.Tables.{is_block, host_of, chunk_of, record_of, slot_of, with_places, with_record}
use Rattle.rules.specs.Timestamps.{◌is◌, ◌below◌}
use Rattle.rules.specs.Waiting.{inserted, marked}
use Rattle.rules.specs.Zero.{◌among◌, zero_operation}
use Rattle.rules.proofs.Formed.{Formed, FormedMessage, host-place, chunk-place, block-place, chunk_of_lem, chunk-facts, waiting_of, message_facts}
use Rattle.rules.proofs.Lists.{three, walk}
use Rattle.rules.proofs.Messages.{Passed, arrived-walk, decides-walk, heard_refusal, left_as, arrives-same}
use Rattle.one_copy.proofs.Tests.{at, at_id, eq_or_ne, not-both}
use Rattle.one_copy.proofs.Abs.{cmt, abt}
use Rattle.one_copy.proofs.Net.{OfRead, OfPre, OfCommit, OfAbort, OfValue, OfAck, OfBoth, Sent, sent-one, sent-taken, sent-at}
use Rattle.one_copy.proofs.Queue.{mark_of, inserted-order, marked-order}
use Rattle.one_copy.proofs.View.{Hist, Part, part_of, seat_of, seats_of, NetLe, net_less, plain, far_message, CInv, Quiet, quiet}
use Rattle.one_copy.proofs.Chunks.{with_queue, net_only, takes-read, takes_write, marks}
use Rattle.one_copy.proofs.Shapes.{Shape}
use Rattle.one_copy.proofs.Homes.{Homes}
use Rattle.one_copy.proofs.Good.{In, Good, good-host, good_record, good-far, Next, unnoted}
use Rattle.one_copy.proofs.EvHost.{front_same, same-host, sour-host}
use Rattle.one_copy.proofs.EvChunk.{Plain, net_replied}

-- neither is
or_false : (a b : Bool) → a || b ≡ false → (a ≡ false) × (b ≡ false)
or_false true b e = absurd (true≢false e)
or_false false b e = (refl, e)

module _ (b : ℕ) (h : Hist) (t : Table) (f : Formed t) (s : Shape t) (lb : is_block t.creation b ≡ true) (i : Good b h t) (p : ℕ)
    (lp : p < place_limit) where
  -- the network without the message
  abbrev n1 : List (Option Message)
  n1 = removed t.places p

  -- the chunks of the set
  abbrev S : ℕ → Type 0
  S = In t.creation b

  -- this block's place
  place-b : b < block_limit
  place-b = block-place t.creation b lb f.creation

  -- what is in flight then was
  taken : (P : Message → Type 0) → Sent n1 P → Sent t.places P
  taken P z = sent-taken P t.places p z

  -- of block b too
  less1 : NetLe b n1 t.places
  less1 = net_less b n1 t.places taken

  -- the message is gone and nothing else happens
  pub gone : Good b h (with_places t n1)
  gone = net_only S b h t.epoch.0 (seats_of t) (part_of t b) t.places i n1 less1

  -- ---- at a chunk

  module _ (m : Message) (e : slot_of t.places p ≡ Some m) where
    -- the message is formed
    facts : FormedMessage t.creation m
    facts = message_facts t.creation m (rw e at (f.places p lp))

    -- its header
    abbrev hd : Header
    hd = header_of m

    -- its chunk
    abbrev c : ℕ
    c = hd.chunk

    -- the chunk's place
    place-c : c < chunk_limit
    place-c = chunk-place t.creation c facts.header.chunk f.creation

    -- its block's place
    place-d : hd.block < block_limit
    place-d = ltb-true hd.block block_limit facts.header.block

    -- what the arrival leaves is good
    abbrev Took : Arrived → Type 0
    Took a = Good b h (with_places (with_record t c hd.block a.held) (replied n1 a.reply))

    -- a reply that says nothing of block b, at another block or with the record as it was
    far : (a : Arrived) → Plain b a.reply → (hd.block ≡ b → ⊥) → Took a
    far a q n = good-far b h t s c hd.block a.held _ place-b place-d n
        (net_only S b h t.epoch.0 (seats_of t) (part_of t b) t.places i _ (net_replied b n1 t.places taken a.reply q))

    -- the record as it was
    as_was : (reply : Option Message) → Plain b reply → Took (record { chunk = chunk_of t c; held = record_of t c hd.block; reply = reply })
    as_was reply q = elim (eq_or_ne hd.block b) [
      | inl db ↦ subst⁻¹ (λ (d : ℕ). Good b h (with_places (with_record t c d (record_of t c d)) (replied n1 reply))) db
          (good_record b h t s c (record_of t c b) _ place-c place-b
          (subst⁻¹ (λ (g : ℕ → Part). CInv S b h t.epoch.0 (seats_of t) g (replied n1 reply)) (at_id c (part_of t b))
          (net_only S b h t.epoch.0 (seats_of t) (part_of t b) t.places i _ (net_replied b n1 t.places taken reply q))))
      | inr n ↦ far (record { chunk = chunk_of t c; held = record_of t c hd.block; reply = reply }) q n
    ]

    -- a commit or an abort
    took-decides : (blocks : ℕ) (commit : Bool) → is_normal (chunk_of t c).state ≡ true
        → (hd.block ≡ b → ((mark_of commit ≡ cmt) × Sent t.places (OfCommit b hd.timestamp.0))
        ⊎ ((mark_of commit ≡ abt) × Sent t.places (OfAbort b hd.timestamp.0)))
        → Took (decides blocks (chunk_of t c) (record_of t c hd.block) hd commit)
    unfolding replied
    took-decides blocks commit nm msg = decides-walk Took blocks (chunk_of t c) (record_of t c hd.block) hd commit (λ _. elim (eq_or_ne hd.block b) [
      | inl db ↦ subst⁻¹ (λ (d : ℕ). Good b h
          (with_places (with_record t c d (with_waiting (record_of t c d) (marked commit hd.timestamp (record_of t c d).waiting))) n1)) db
          (good_record b h t s c _ n1 place-c place-b
          (subst⁻¹ (λ (q : List Entry). CInv S b h t.epoch.0 (seats_of t) (at c (with_queue (part_of t b c) q) (part_of t b)) n1)
          (marked-order (record_of t c b).waiting commit hd.timestamp (waiting_of t f c b place-c place-b).count)
          (marks S b h t.epoch.0 (seats_of t) (part_of t b) t.places i c nm commit hd.timestamp n1 less1 (msg db))))
      | inr n ↦ far (silent (chunk_of t c) (with_waiting (record_of t c hd.block) (marked commit hd.timestamp
          (record_of t c hd.block).waiting))) tt n
    ]) (as_was None tt)

    -- a read or a prewrite
    took-arrived : (k : Epoch) (kind : Kind) → (Passed t.creation.blocks (chunk_of t c) (record_of t c hd.block) hd k kind
        → Took (waits (chunk_of t c) (record_of t c hd.block) hd k kind))
        → Took (arrived t.creation.blocks (chunk_of t c) (record_of t c hd.block) hd k kind)
    took-arrived k kind g = arrived-walk Took t.creation.blocks (chunk_of t c) (record_of t c hd.block) hd k kind
        (λ x. as_was (Some (message_of hd (Sort.Refusal x))) (plain b hd x)) g

    -- the chunk's epoch is the store's
    one-epoch : (chunk_of t c).epoch.0 ≡ t.epoch.0
    one-epoch = eqb-true (chunk_of t c).epoch.0 t.epoch.0 (chunk-facts t.creation t.epoch (chunk_of t c)
        (chunk_of_lem t f c facts.header.chunk)).epoch

    -- a read waits
    read-waits : (k : Epoch) → is_normal (chunk_of t c).state ≡ true → (hd.block ≡ b → Sent t.places (OfRead b c hd.timestamp.0))
        → Passed t.creation.blocks (chunk_of t c) (record_of t c hd.block) hd k Kind.Read
        → Took (waits (chunk_of t c) (record_of t c hd.block) hd k Kind.Read)
    unfolding replied
    read-waits k nm msg ps = elim (eq_or_ne hd.block b) [
      | inl db ↦ subst⁻¹ (λ (d : ℕ). (record_of t c d).waiting.count < waiting_limit
          → Good b h (with_places (with_record t c d (with_waiting (record_of t c d)
          (inserted (record_of t c d).waiting (entry_of hd k Kind.Read)))) n1)) db
          (λ room. good_record b h t s c _ n1 place-c place-b
          (subst⁻¹ (λ (q : List Entry). CInv S b h t.epoch.0 (seats_of t) (at c (with_queue (part_of t b c) q) (part_of t b)) n1)
          (inserted-order (record_of t c b).waiting (entry_of hd k Kind.Read) room)
          (takes-read S b h t.epoch.0 (seats_of t) (part_of t b) t.places i c nm hd k n1 less1 (msg db)))) ps.room
      | inr n ↦ far (waits (chunk_of t c) (record_of t c hd.block) hd k Kind.Read) tt n
    ]

    -- a prewrite waits and is answered
    write-waits : (k : Epoch) (v : ℕ) → is_normal (chunk_of t c).state ≡ true
        → (hd.block ≡ b → Sent t.places (OfPre b c hd.timestamp.0 k.0 v))
        → Passed t.creation.blocks (chunk_of t c) (record_of t c hd.block) hd k (Kind.Undecided v)
        → Took (waits (chunk_of t c) (record_of t c hd.block) hd k (Kind.Undecided v))
    unfolding replied
    write-waits k v nm msg ps = elim (eq_or_ne hd.block b) [
      | inl db ↦ subst⁻¹ (λ (d : ℕ). (record_of t c d).waiting.count < waiting_limit
          → is_out_of_order (Kind.Undecided v) hd.timestamp (record_of t c d) ≡ false
          → Good b h (with_places (with_record t c d (with_waiting (record_of t c d)
          (inserted (record_of t c d).waiting (entry_of hd k (Kind.Undecided v))))) (sent n1 (message_of hd Sort.PrewriteReply)))) db
          (λ room order. let o = or_false (hd.timestamp below (record_of t c b).write) (hd.timestamp below (record_of t c b).read) order in
          good_record b h t s c _ _ place-c place-b
          (subst⁻¹ (λ (q : List Entry). CInv S b h t.epoch.0 (seats_of t) (at c (with_queue (part_of t b c) q) (part_of t b))
          (sent n1 (message_of hd Sort.PrewriteReply)))
          (inserted-order (record_of t c b).waiting (entry_of hd k (Kind.Undecided v)) room)
          (takes_write S b h t.epoch.0 (seats_of t) (part_of t b) t.places i c nm hd k v (sent n1 (message_of hd Sort.PrewriteReply)) refl
          (λ P z. elim (sent-one P (message_of hd Sort.PrewriteReply) n1 z) [ inl q ↦ inl (taken P q) | inr q ↦ inr q ]) (msg db)
          (ps.current ∙ one-epoch) (ltb-false hd.timestamp.0 (record_of t c b).write.0 o.0)
          (ltb-false hd.timestamp.0 (record_of t c b).read.0 o.1)))) ps.room ps.order
      | inr n ↦ far (waits (chunk_of t c) (record_of t c hd.block) hd k (Kind.Undecided v)) (far_message b hd Sort.PrewriteReply n) n
    ]

  -- a message at a chunk, by its sort
  took-at : (m : Message) (e : slot_of t.places p ≡ Some m) (s : Sort) → sort_of m ≡ s
      → is_normal (chunk_of t (header_of m).chunk).state ≡ true
      → Took m e (at_chunk t.creation.blocks (chunk_of t (header_of m).chunk)
      (record_of t (header_of m).chunk (header_of m).block) (header_of m) s)
  unfolding at_chunk
  took-at m e (Sort.Request k Request.Read) es nm = took-arrived m e k Kind.Read
      (read-waits m e k nm (λ db. sent-at (OfRead b (header_of m).chunk (header_of m).timestamp.0) t.places p m e
      (rw es tt, db, refl, refl)))
  took-at m e (Sort.Request k (Request.Prewrite v)) es nm = took-arrived m e k (Kind.Undecided v)
      (write-waits m e k v nm (λ db. sent-at (OfPre b (header_of m).chunk (header_of m).timestamp.0 k.0 v) t.places p m e
      (rw es (refl, refl), db, refl, refl)))
  took-at m e (Sort.Request k Request.Commit) es nm = took-decides m e t.creation.blocks true nm
      (λ db. inl (refl, sent-at (OfCommit b (header_of m).timestamp.0) t.places p m e (rw es tt, db, refl)))
  took-at m e (Sort.Request k Request.Abort) es nm = took-decides m e t.creation.blocks false nm
      (λ db. inr (refl, sent-at (OfAbort b (header_of m).timestamp.0) t.places p m e (rw es tt, db, refl)))
  took-at m e (Sort.Refusal x) es nm = as_was m e None tt
  took-at m e (Sort.ReadReply v) es nm = as_was m e None tt
  took-at m e Sort.PrewriteReply es nm = as_was m e None tt

  -- .. in any state
  chunk-takes : (m : Message) (e : slot_of t.places p ≡ Some m)
      → Took m e (arrives t.creation.blocks (chunk_of t (header_of m).chunk) (record_of t (header_of m).chunk (header_of m).block) m)
  chunk-takes m e = walk (Took m e) (is_normal (chunk_of t (header_of m).chunk).state) _ _ (took-at m e (sort_of m) refl)
      (λ _. as_was m e None tt)

  -- ---- at a host

  module _ (blk : ℕ → ℕ) (hm : Homes blk t) where
    -- a reply under a host's timestamp is of the host's block
    same_block : (j : ℕ) (m : Message) → slot_of t.places p ≡ Some m
        → (header_of m).timestamp.0 ≡ (host_of t j).attempt.timestamp.0 → 0 < (host_of t j).attempt.timestamp.0
        → (front (host_of t j)).block ≡ (header_of m).block
    same_block j m e et pos =
        let u = (host_of t j).attempt.timestamp.0 in
        sym (hm u (front (host_of t j)).block (inl (j, record { stamp = refl; pos = pos; block = refl }))).1
        ∙ (hm u (header_of m).block (inr (inl (sent-at (OfBoth (header_of m).block u) t.places p m e (refl, et))))).1

    -- a host's change that says nothing new
    abbrev QuietTo : ℕ → Host → Type 0
    QuietTo j y = Quiet S b t.places t.epoch.0 (seats_of t j) (seat_of y)

    -- nothing new is said
    as_before : (j : ℕ) → QuietTo j (host_of t j)
    as_before j = same-host S b t.places t.epoch.0 (seats_of t j) (seats_of t j)
        (front_same (host_of t j) (host_of t j) refl) refl refl (i.known j) refl refl refl

    -- a refusal clears okay
    sour : (j c : ℕ) (x : Refusal) → QuietTo j (heard (host_of t j) (answered_by (host_of t j).attempt c) (Sort.Refusal x))
    sour j c x =
        let h = host_of t j in
        let y = heard h (answered_by h.attempt c) (Sort.Refusal x) in
        let k = heard_refusal h (answered_by h.attempt c) x in
        sour-host S b t.places t.epoch.0 (seats_of t j) (seat_of y)
        (front_same h y (ap (λ (q : Queue). get_or (take q.count q.operations) 0 zero_operation) k.queue))
        (ap (λ (u : Timestamp). u.0) k.timestamp) k.clock
        (let z = i.known j in let q : y.epoch.0 ≡ h.epoch.0 = ap (λ (u : Epoch). u.0) k.epoch in omega arith) k.okay

    -- a counted answer, by its sort
    heard-quiet : (j : ℕ) (m : Message) → slot_of t.places p ≡ Some m → (s : Sort) → sort_of m ≡ s → counts (host_of t j) m ≡ true
        → QuietTo j (heard (host_of t j) (answered_by (host_of t j).attempt (header_of m).chunk) s)
    heard-quiet j m e (Sort.Refusal x) es k = sour j (header_of m).chunk x
    heard-quiet j m e (Sort.Request epoch q) es k = as_before j
    heard-quiet j m e (Sort.ReadReply v) es k =
        let x = host_of t j in
        let hd = header_of m in
        let r = three (hd.timestamp is x.attempt.timestamp) (hd.chunk among x.attempt.outstanding) (is_reading (front x).action)
        (rw es at k) in
        let et = eqb-true hd.timestamp.0 x.attempt.timestamp.0 r.0 in
        let reads : not (is_reading (front x).action) ≡ false = ap not r.2 in
        record {
          w = λ u z. absurd (not-both (not (is_reading (front x).action)) z.write reads);
          okay = λ u z. absurd (not-both (not (is_reading (front x).action)) z.write reads);
          out = λ u z. absurd (not-both (not (is_reading (front x).action)) z.write reads);
          r = λ u y z. inr (sent-at (OfValue b u y) t.places p m e
              (rw es z.value, sym (same_block j m e et (omega (arith, z.stamp, z.pos))) ∙ z.block, et ∙ z.stamp));
          value = λ u z. refl;
          ts = inr refl;
          clock = refl;
          known = i.known j;
        }
    heard-quiet j m e Sort.PrewriteReply es k =
        let x = host_of t j in
        let hd = header_of m in
        let r = three (hd.timestamp is x.attempt.timestamp) (hd.chunk among x.attempt.outstanding)
        (not (is_reading (front x).action)) (rw es at k) in
        let et = eqb-true hd.timestamp.0 x.attempt.timestamp.0 r.0 in
        record {
          w = λ u z. record { stamp = z.stamp; pos = z.pos; write = z.write; block = z.block };
          okay = λ u z o. o;
          out = λ u z o a l. elim (eq_or_ne a hd.chunk) [
            | inl ac ↦ inr (sent-at (OfAck b u a) t.places p m e
                (rw es tt, sym (same_block j m e et (omega (arith, z.stamp, z.pos))) ∙ z.block, et ∙ z.stamp, sym ac))
            | inr n ↦ inl (sym (get_or-set_other x.attempt.outstanding.chunks hd.chunk a false false n) ∙ l)
          ];
          r = λ u y z. absurd (not-both (not (is_reading (front x).action)) r.2 z.write);
          value = λ u z. refl;
          ts = inr refl;
          clock = refl;
          known = i.known j;
        }

    -- a message at a host
    host-takes : (m : Message) → slot_of t.places p ≡ Some m → Good b h (host_takes (with_places t n1) (header_of m) m)
    unfolding at_host
    host-takes m e = good-host b h t s j (hears (host_of t j) m) n1 (host-place t.creation j (facts m e).header.host f.creation)
        (quiet S b h t.epoch.0 (seats_of t) (part_of t b) t.places i j (seat_of (hears (host_of t j) m)) n1 less1
        (walk (QuietTo j) (host_of t j).working _ _
        (λ _. walk (QuietTo j) (counts (host_of t j) m) _ _ (heard-quiet j m e (sort_of m) refl) (λ _. as_before j)) (λ _. as_before j)))
      where
        j : ℕ
        j = (header_of m).host

    -- deliver
    pub ev_deliver : (m : Message) → slot_of t.places p ≡ Some m → Next b h t [] Outcome.None (takes (with_places t n1) (Some m))
    ev_deliver m e = unnoted b h t _ (walk (Good b h) (is_for_chunk (sort_of m)) _ _
        (λ _. subst⁻¹ (Good b h) (left_as (with_places t n1) (header_of m).chunk (header_of m).block _
        (arrives-same (chunk_of t (header_of m).chunk) t.creation.blocks (record_of t (header_of m).chunk (header_of m).block) m)) (chunk-takes m e))
        (λ _. host-takes m e))

  -- drop
  pub ev_drop : Next b h t [] Outcome.None (with_places t n1)
  ev_drop = unnoted b h t _ gone
