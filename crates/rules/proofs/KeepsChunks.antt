-- The events of chunks and of the network keep well-formedness: deliver, drop, run, fail, recover, take lease, give lease, overdue
use Rattle.std.specs.Prelude.{None, Option, Some}
use Prim.Native.Nat.{ℕ, ◌<◌}
use mathlib.Core.Path.{◌≡◌, refl, sym, ◌∙◌}
use mathlib.Core.Bool.{Bool, true, false, cond, ◌&&◌, true≢false}
use mathlib.Core.List.{List}
use native.Mathlib.Omega.{arith}
use lib.ListN.{get_or, drop, length-drop, length-set, get_or-replicate}
use lib.Dec.{eqb}
use borrow.Author.Tests.{ltb-true, lt-ltb}
use Rattle.rules.specs.Types.{Timestamp, Epoch, Creation, Kind, Entry, Waiting, Record, State, Chunk, Header, Message, Table, Arrived, Operand, Request, Refusal, Sort}
use Rattle.rules.specs.Built.{no_blocks}
use Rattle.rules.specs.Chunks.{with_state, with_value, with_read, with_write, with_waiting, answering, silent, entry_of, arrived, decides, at_chunk, runs, ran, failed, emptied, recover_refusals, take_lease_refusals, give_lease_refusals, overdue, arrives}
use Rattle.rules.specs.Codes.{Row}
use Rattle.rules.specs.Creation.{is_creation}
use Rattle.rules.specs.Events.{chunk_takes, host_takes, takes, chunk_rule, ◌does◌, kind_of, with_arrived}
use Rattle.rules.specs.Formed.{chunk_formed, entry_formed, waiting_formed, record_formed, message_formed, slot_formed, sort_formed}
use Rattle.rules.specs.Hosts.{hears}
use Rattle.rules.specs.Kinds.{is_write, is_normal}
use Rattle.rules.specs.Limits.{block_limit, waiting_limit, place_limit}
use Rattle.rules.specs.Operands.{◌∥◌∥◌}
use Rattle.rules.specs.Tables.{is_host, is_chunk, is_block, host_of, chunk_of, record_of, slot_of, with_chunk, with_record, with_places}
use Rattle.rules.specs.Messages.{headed, header_of, sort_of, is_for_chunk}
use Rattle.rules.specs.Network.{removed, free_places}
use Rattle.rules.specs.Timestamps.{never, ◌is◌, ◌above◌, ◌below◌, later, is_timestamp, ◌same◌, is_epoch}
use Rattle.rules.specs.Waiting.{in_order, insert, inserted, head, head_removed, first_with, decided, mark, marked}
use Rattle.rules.specs.Words.{every, place, from, numbers}
use Rattle.rules.specs.Zero.{zero_entry, is_zero_entry, zero_waiting, is_zero_record}
use Rattle.rules.proofs.Lists.{three, five, walk, every_drop, every-change, set_all, take_short}
use Rattle.rules.proofs.Order.{insert-length, insert-every, insert_ordered, tail_ordered, mark_ordered}
use Rattle.rules.proofs.Messages.{arrived-walk, decides-walk}
use Rattle.rules.proofs.Formed.{Formed, chunk-place, block-place, chunk-facts, chunk-formed, waiting-facts, entries-length, entries-formed, entries_ordered, waiting-formed, head-formed, FormedRecord, record_facts, record_formed_lem, FormedHeader, message_facts, message_formed_lem, host_of_lem, chunk_of_lem, record_of_lem}
use Rattle.rules.proofs.Relies.{run-head}
use Rattle.rules.proofs.KeepsParts.{Keeps, RecordAt, host-kept, chunk_kept, record_kept, records-kept, removed-kept, replied-kept}
use Rattle.rules.proofs.KeepsHosts.{hears-formed}

-- the later of two timestamps is one
pub later-formed : (t u : Timestamp) → is_timestamp t ≡ true → is_timestamp u ≡ true → is_timestamp (later t u) ≡ true
later-formed t u h g = walk (λ (x : Timestamp). is_timestamp x ≡ true) (u above t) u t (λ _. g) (λ _. h)

module _ (k : Creation) where
  -- ---- waiting lists

  -- nobody waits
  pub none-waiting : waiting_formed k zero_waiting ≡ true
  unfolding every from
  none-waiting = refl

  -- one waits more, in a list with room
  inserted-formed : (w : Waiting) (e : Entry) → waiting_formed k w ≡ true → entry_formed k e ≡ true
      → w.count < waiting_limit → waiting_formed k (inserted w e) ≡ true
  unfolding inserted
  inserted-formed w e h g n =
      let f = waiting-facts k w h in
      let l = in_order w in
      waiting-formed k (insert e l) (omega (arith, insert-length e l, take_short w.count w.entries))
      (insert-every (entry_formed k) e l g (entries-formed k w f)) (insert_ordered 0 e l (omega arith) (entries_ordered k w f))

  -- the head goes
  head-removed-formed : (w : Waiting) → waiting_formed k w ≡ true → waiting_formed k (head_removed w) ≡ true
  unfolding head_removed
  head-removed-formed w h =
      let f = waiting-facts k w h in
      let l = in_order w in
      waiting-formed k (drop 1 l) (omega (arith, length-drop 1 l, entries-length k w f))
      (every_drop (entry_formed k) 1 l (entries-formed k w f)) (tail_ordered l (entries_ordered k w f))

  -- an entry is decided
  marked-formed : (commit : Bool) (t : Timestamp) (w : Waiting) → waiting_formed k w ≡ true → waiting_formed k (marked commit t w) ≡ true
  unfolding marked mark
  marked-formed commit t w h =
      let f = waiting-facts k w h in
      let l = in_order w in
      let i = first_with t l in
      waiting-formed k (mark commit t l) (omega (arith, length-set l i (decided commit (get_or l i zero_entry)), entries-length k w f))
      (every-change (entry_formed k) (decided commit) (λ x q. q) l i zero_entry (entries-formed k w f))
      (mark_ordered commit t l (entries_ordered k w f))

  -- ---- records

  -- a record with another waiting list
  rewaited : (r : Record) (w : Waiting) → record_formed k r ≡ true → waiting_formed k w ≡ true → record_formed k (with_waiting r w) ≡ true
  rewaited r w h g =
      let f = record_facts k r h in
      record_formed_lem k (with_waiting r w) (record { read = f.read; write = f.write; waiting = g })

  -- every place of the array is zero
  abbrev all_unused : Waiting → Bool
  all_unused w = every (λ i. is_zero_entry (get_or w.entries i zero_entry)) (numbers waiting_limit)

  none-used : all_unused zero_waiting ≡ true
  unfolding every from
  none-used = refl

  -- an emptied record stands where the record stood
  pub emptied-at : (c b : ℕ) (r : Record) → RecordAt k c b r → RecordAt k c b (emptied r)
  emptied-at c b r h = go (is_chunk k c && is_block k b) h
    where
      go : (x : Bool) → cond x (record_formed k r) (is_zero_record r) ≡ true
          → cond x (record_formed k (emptied r)) (is_zero_record (emptied r)) ≡ true
      go true h = rewaited r zero_waiting h none-waiting
      go false h =
          let w = r.waiting in
          let f = five (eqb r.value 0) (r.read is never) (r.write is never) (eqb w.count 0) (all_unused w) h in
          rw (f.0, f.1, f.2) none-used

  -- ---- what a message or a run makes of chunk c and its record of block b: a formed chunk, a record that may stand there, and a
  -- formed reply

  record Arrives (now : Epoch) (c b : ℕ) (a : Arrived) : Type 0 where
    chunk : chunk_formed k now a.chunk ≡ true
    held : RecordAt k c b a.held
    reply : slot_formed k a.reply ≡ true

  module _ (now : Epoch) (x : Chunk) (o : chunk_formed k now x ≡ true) (c b : ℕ) where
    -- a formed reply
    answers : (r : Record) (header : Header) (s : Sort) → RecordAt k c b r → FormedHeader k header → sort_formed s ≡ true
        → Arrives now c b (answering x r header s)
    answers r header s h f e = record { chunk = o; held = h; reply = message_formed_lem k header s f e }

    -- no reply
    is_silent : (r : Record) → RecordAt k c b r → Arrives now c b (silent x r)
    is_silent r h = record { chunk = o; held = h; reply = refl }

  -- a message at the record of its chunk and block
  module _ (now : Epoch) (x : Chunk) (o : chunk_formed k now x ≡ true) (r : Record) (header : Header)
      (h : RecordAt k header.chunk header.block r) (f : FormedHeader k header) where
    abbrev c : ℕ
    c = header.chunk

    abbrev b : ℕ
    b = header.block

    -- the record of a block of the store's, with another waiting list
    waits-at : b < k.blocks → (w : Waiting) → (waiting_formed k r.waiting ≡ true → waiting_formed k w ≡ true)
        → RecordAt k c b (with_waiting r w)
    waits-at l w g =
        let e = lt-ltb b k.blocks l in
        let formed : record_formed k r ≡ true = rw (f.chunk, e) at h in
        rw (f.chunk, e) (rewaited r w formed (g (record_facts k r formed).waiting))

    -- a read or a prewrite
    arrived-at : (epoch : Epoch) (kind : Kind) → is_epoch epoch ≡ true → Arrives now c b (arrived k.blocks x r header epoch kind)
    arrived-at epoch kind e =
        let y = entry_of header epoch kind in
        let longer = with_waiting r (inserted r.waiting y) in
        let formed : entry_formed k y ≡ true = rw (f.timestamp, f.host, e) refl in
        arrived-walk (Arrives now c b) k.blocks x r header epoch kind (λ why. answers now x o c b r header (Sort.Refusal why) h f refl) (λ p.
        let z = waits-at p.block (inserted r.waiting y) (λ w. inserted-formed r.waiting y w formed p.room) in
        walk (Arrives now c b) (is_write kind) _ _ (λ _. answers now x o c b longer header Sort.PrewriteReply z f refl)
        (λ _. is_silent now x o c b longer z))

    -- a commit or an abort
    decides_at : (commit : Bool) → Arrives now c b (decides k.blocks x r header commit)
    decides_at commit =
        let w = marked commit header.timestamp r.waiting in
        decides-walk (Arrives now c b) k.blocks x r header commit
        (λ inside. is_silent now x o c b (with_waiting r w) (waits-at inside w (marked-formed commit header.timestamp r.waiting)))
        (is_silent now x o c b r h)

    -- any sort
    at-chunk : (s : Sort) → sort_formed s ≡ true → Arrives now c b (at_chunk k.blocks x r header s)
    unfolding at_chunk
    at-chunk (Sort.Request epoch Request.Read) g = arrived-at epoch Kind.Read g
    at-chunk (Sort.Request epoch (Request.Prewrite v)) g = arrived-at epoch (Kind.Undecided v) g
    at-chunk (Sort.Request epoch Request.Commit) g = decides_at true
    at-chunk (Sort.Request epoch Request.Abort) g = decides_at false
    at-chunk (Sort.Refusal y) g = is_silent now x o c b r h
    at-chunk (Sort.ReadReply v) g = is_silent now x o c b r h
    at-chunk Sort.PrewriteReply g = is_silent now x o c b r h

  -- any message, at a chunk in any state
  arrives_at : (now : Epoch) (x : Chunk) (r : Record) (m : Message) → chunk_formed k now x ≡ true
      → RecordAt k (header_of m).chunk (header_of m).block r → message_formed k m ≡ true
      → Arrives now (header_of m).chunk (header_of m).block (arrives k.blocks x r m)
  arrives_at now x r m o h g =
      let f = message_facts k m g in
      walk (Arrives now (header_of m).chunk (header_of m).block) (is_normal x.state) _ _
      (λ _. at-chunk now x o r (header_of m) h f.header (sort_of m) f.sort)
      (λ _. is_silent now x o (header_of m).chunk (header_of m).block r h)

  -- a run at the record of a chunk and block of the store's
  module _ (w : is_creation k ≡ true) (now : Epoch) (x : Chunk) (o : chunk_formed k now x ≡ true)
      (c b : ℕ) (d : is_chunk k c ≡ true) (e : is_block k b ≡ true) where
    -- a formed record stands there
    stands : (r : Record) → FormedRecord k r → RecordAt k c b r
    stands r f = rw (d, e) (record_formed_lem k r f)

    -- an entry of each kind, out of the waiting list
    runs-at : (r : Record) (y : Entry) (kind : Kind) → FormedRecord k r → entry_formed k y ≡ true → Arrives now c b (runs c b x r y kind)
    runs-at r y (Kind.Aborted v) f g = is_silent now x o c b r (stands r f)
    runs-at r y (Kind.Undecided v) f g = is_silent now x o c b r (stands r f)
    runs-at r y (Kind.Committed v) f g =
        let t = three (is_timestamp y.timestamp) (is_host k y.sender) (is_epoch y.epoch) g in
        let written = with_write (with_value r v) (later r.write y.timestamp) in
        let up = later-formed r.write y.timestamp f.write t.0 in
        is_silent now x o c b written (stands written (record { read = f.read; write = up; waiting = f.waiting }))
    runs-at r y Kind.Read f g =
        let t = three (is_timestamp y.timestamp) (is_host k y.sender) (is_epoch y.epoch) g in
        let header = headed y.sender c b y.timestamp in
        let seen = with_read r (later r.read y.timestamp) in
        let l = lt-ltb b block_limit (block-place k b e w) in
        let fits : FormedHeader k header = record { host = t.1; chunk = d; block = l; timestamp = t.0 } in
        let up = later-formed r.read y.timestamp f.read t.0 in
        let raised = stands seen (record { read = up; write = f.write; waiting = f.waiting }) in
        walk (Arrives now c b) (y.timestamp below r.write) _ _
        (λ _. answers now x o c b r header (Sort.Refusal Refusal.OutOfOrder) (stands r f) fits refl)
        (λ _. answers now x o c b seen header (Sort.ReadReply r.value) raised fits refl)

    -- the head
    ran-at : (r : Record) → record_formed k r ≡ true → 0 < r.waiting.count → Arrives now c b (ran c b x r)
    unfolding ran
    ran-at r h n =
        let f = record_facts k r h in
        runs-at (with_waiting r (head_removed r.waiting)) (head r.waiting) (head r.waiting).kind
        (record { read = f.read; write = f.write; waiting = head-removed-formed r.waiting f.waiting })
        (head-formed k r.waiting (waiting-facts k r.waiting f.waiting) n)

  -- ---- chunks

  -- a chunk with nothing to reconcile
  pub blank-formed : (current : Epoch) (c : Chunk) → c.epoch same current ≡ true → c.reconcile ≡ no_blocks → chunk_formed k current c ≡ true
  blank-formed current c h e = chunk-formed k current c (record {
    epoch = h;
    reconcile = λ b l q. absurd (true≢false (sym q ∙ rw e (get_or-replicate block_limit b false false l)));
  })

  -- a block of the store's joins the reconciliation set
  overdue-formed : (current : Epoch) (c : Chunk) (b : ℕ) → chunk_formed k current c ≡ true → is_block k b ≡ true
      → chunk_formed k current (overdue c b) ≡ true
  overdue-formed current c b h e =
      let f = chunk-facts k current c h in
      chunk-formed k current (overdue c b) (record {
        epoch = f.epoch;
        reconcile = set_all (λ i x. i < block_limit → x ≡ true → is_block k i ≡ true) false c.reconcile b true (λ _ _. e) f.reconcile;
      })

-- ---- the network's events

module _ (t : Table) (f : Formed t) where
  -- what a message or a run leaves
  arrived-kept : (c b : ℕ) (a : Arrived) → is_chunk t.creation c ≡ true → b < block_limit → Arrives t.creation t.epoch c b a
      → Formed (with_arrived t c b a)
  arrived-kept c b a d l r =
      let u = with_chunk t c a.chunk in
      replied-kept (with_record u c b a.held) (record_kept u (chunk_kept t f c a.chunk d r.chunk) c b a.held l r.held)
      a.reply r.reply

  -- a message at its chunk
  chunk-takes : (m : Message) → message_formed t.creation m ≡ true → Formed (chunk_takes t (header_of m) m)
  chunk-takes m g =
      let c = (header_of m).chunk in
      let b = (header_of m).block in
      let h = (message_facts t.creation m g).header in
      let l = ltb-true b block_limit h.block in
      let old = f.records c b (chunk-place t.creation c h.chunk f.creation) l in
      arrived-kept c b (arrives t.creation.blocks (chunk_of t c) (record_of t c b) m) h.chunk l
      (arrives_at t.creation t.epoch (chunk_of t c) (record_of t c b) m (chunk_of_lem t f c h.chunk) old g)

  -- a reply at its host
  host-takes : (m : Message) → message_formed t.creation m ≡ true → Formed (host_takes t (header_of m) m)
  host-takes m g =
      let h = (header_of m).host in
      let e = (message_facts t.creation m g).header.host in
      host-kept t f h (hears (host_of t h) m) e (hears-formed t.creation (host_of t h) m f.creation (host_of_lem t f h e) g)

  -- what a place holds, at its party
  taken : (s : Option Message) → slot_formed t.creation s ≡ true → Formed (takes t s)
  taken None g = f
  taken (Some m) g =
      walk Formed (is_for_chunk (sort_of m)) (chunk_takes t (header_of m) m) (host_takes t (header_of m) m) (λ _. chunk-takes m g) (λ _. host-takes m g)

module _ (t : Table) where
  abbrev creation : Creation
  creation = t.creation

  -- 4 deliver
  pub deliver-kept : Keeps t (kind_of 4)
  unfolding kind_of place
  deliver-kept place _ _ f e p =
      taken (with_places t (removed t.places place)) (removed-kept t f place) (slot_of t.places place)
      (f.places place (ltb-true place place_limit (three _ _ _ e).0))

  -- 5 drop
  pub drop-kept : Keeps t (kind_of 5)
  unfolding kind_of place
  drop-kept place _ _ f e p = removed-kept t f place

  -- ---- the chunks' events

  -- 9 run
  pub run-kept : Keeps t (kind_of 9)
  unfolding kind_of place
  run-kept chunk block _ f e p =
      let x = chunk_of t chunk in
      let r = record_of t chunk block in
      let s = three _ _ _ e in
      let l = block-place creation block s.1 f.creation in
      let some = run-head x.state r.waiting (free_places t.places) p in
      let old = record_of_lem t f chunk block (chunk-place creation chunk s.0 f.creation) l in
      arrived-kept t f chunk block (ran chunk block x r) s.0 l
      (ran-at creation f.creation t.epoch x (chunk_of_lem t f chunk s.0) chunk block s.0 s.1 r old some)

  -- 11 fail
  pub fail-kept : Keeps t (kind_of 11)
  unfolding kind_of place
  fail-kept chunk _ _ f e p =
      let s = three _ _ _ e in
      let x = chunk_of t chunk in
      let now = blank-formed creation t.epoch (failed x) (chunk-facts creation t.epoch x (chunk_of_lem t f chunk s.0)).epoch refl in
      records-kept (with_chunk t chunk (failed x)) (chunk_kept t f chunk (failed x) s.0 now) _
      (λ c b l m.
      let old = f.records c b l m in
      walk (RecordAt creation c b) (eqb c chunk) _ _ (λ _. emptied-at creation c b (record_of t c b) old) (λ _. old))

  -- an event that changes a chunk's state alone
  state_kept : (refusals : Chunk → List Row) (state : State)
      → Keeps t (Operand.Chunk ∥ Operand.Unused ∥ Operand.Unused does (λ t chunk _ _. chunk_rule t chunk refusals (λ c. with_state c state)))
  state_kept refusals state chunk _ _ f e p =
      let s = three _ _ _ e in
      chunk_kept t f chunk (with_state (chunk_of t chunk) state) s.0 (chunk_of_lem t f chunk s.0)

  -- 12 recover
  pub recover_kept : Keeps t (kind_of 12)
  unfolding kind_of place
  recover_kept = state_kept (λ c. recover_refusals c.state) State.Nolease

  -- 13 take lease
  pub take_lease_kept : Keeps t (kind_of 13)
  unfolding kind_of place
  take_lease_kept = state_kept (λ c. take_lease_refusals c.state) State.Nolease

  -- 14 give lease
  pub give_lease_kept : Keeps t (kind_of 14)
  unfolding kind_of place
  give_lease_kept = state_kept (λ c. give_lease_refusals c.state c.lost) State.Normal

  -- 16 overdue
  pub overdue-kept : Keeps t (kind_of 16)
  unfolding kind_of place
  overdue-kept chunk block now f e p =
      let s = three _ _ _ e in
      let x = chunk_of t chunk in
      chunk_kept t f chunk (overdue x block) s.0 (overdue-formed creation t.epoch x block (chunk_of_lem t f chunk s.0) s.1)
