-- The epoch change keeps well-formedness
use Prim.Native.Nat.{ℕ, ◌+◌, ◌<◌}
use mathlib.Core.Path.{◌≡◌, refl}
use mathlib.Core.Bool.{Bool, true, false, cond}
use mathlib.Core.List.{List}
use lib.ListN.{get_or}
use borrow.Author.Tests.{eq-eqb}
use Rattle.rules.specs.Types.{Timestamp, Creation, Entry, Record, Chunk, Table, Copy}
use Rattle.rules.specs.Chunks.{emptied}
use Rattle.rules.specs.Events.{copy_in, copies_of, anew, renewed, epoch_changed, kind_of}
use Rattle.rules.specs.Formed.{chunk_formed, entry_formed, record_formed}
use Rattle.rules.specs.Kinds.{is_write}
use Rattle.rules.specs.Limits.{chunk_limit, block_limit}
use Rattle.rules.specs.Settlement.{in_set, not_lost, last_read, last_write, waiting, writes_of, W, committed, writes, commits, latest, settled_record, settled}
use Rattle.rules.specs.Tables.{is_host, is_chunk, set_of, chunk_of, record_of}
use Rattle.rules.specs.Timestamps.{never, later, greatest, is_timestamp, next, is_epoch}
use Rattle.rules.specs.Words.{those, each, every, some, place}
use Rattle.rules.specs.Zero.{◌among◌, is_zero_chunk, no_copy, no_chunk}
use Rattle.rules.proofs.Lists.{three, walk, every_of_all, every-each, every-each-number, every-joined, fold-keeps, each_number, each-each-number}
use Rattle.rules.proofs.Formed.{Formed, of_store_lem, set_of_store, set_of_block, waiting-facts, entries-formed, record_facts, record_formed_lem, record_of_lem}
use Rattle.rules.proofs.Relies.{epoch-next}
use Rattle.rules.proofs.KeepsParts.{Keeps, RecordAt, records-kept}
use Rattle.rules.proofs.KeepsChunks.{later-formed, none-waiting, emptied-at, blank-formed}

-- the greatest of timestamps is one
greatest-formed : (l : List Timestamp) → every is_timestamp l ≡ true → is_timestamp (greatest l) ≡ true
greatest-formed l h = fold-keeps is_timestamp (λ (x : Timestamp). is_timestamp x ≡ true) later later-formed never l refl h

-- ---- settlement: where the copies' records are formed, the settled record is

module _ (k : Creation) where
  -- a copy with a formed record
  abbrev copy_formed : Copy → Bool
  copy_formed c = record_formed k c.held

  -- the writes that wait in a copy have timestamps
  writes_of_formed : (c : Copy) → copy_formed c ≡ true → every is_timestamp (writes_of c) ≡ true
  writes_of_formed c h =
      let w = c.held.waiting in
      every-each is_timestamp (entry_formed k) (λ (e : Entry). e.timestamp) (those (λ e. is_write e.kind) (waiting c))
      (λ e g. (three (is_timestamp e.timestamp) (is_host k e.sender) (is_epoch e.epoch) g).0)
      (every_of_all (entry_formed k) (λ e. is_write e.kind) (waiting c)
      (entries-formed k w (waiting-facts k w (record_facts k c.held h).waiting)))

  module _ (copies : List Copy) (h : every copy_formed copies ≡ true) where
    -- the greatest over the set
    over-set : (f : Copy → Timestamp) → ((c : Copy) → copy_formed c ≡ true → is_timestamp (f c) ≡ true)
        → is_timestamp (greatest (each f (those in_set copies))) ≡ true
    over-set f g =
        let members = those in_set copies in
        greatest-formed (each f members) (every-each is_timestamp copy_formed f members g (every_of_all copy_formed in_set copies h))

    -- W, the latest committed one, and the settled record
    W-formed : is_timestamp (W copies) ≡ true
    unfolding W
    W-formed = over-set last_write (λ c g. (record_facts k c.held g).write)

    latest-formed : is_timestamp (latest copies) ≡ true
    unfolding latest commits writes
    latest-formed =
        let alive = those not_lost copies in
        greatest-formed (commits copies) (every_of_all is_timestamp (committed copies) (writes copies)
        (every-joined is_timestamp (each writes_of alive)
        (every-each (every is_timestamp) copy_formed writes_of alive writes_of_formed (every_of_all copy_formed not_lost copies h))))

    settled-formed : record_formed k (settled_record copies) ≡ true
    unfolding settled_record
    settled-formed = record_formed_lem k (settled_record copies) (record {
      read = over-set last_read (λ c g. (record_facts k c.held g).read);
      write = walk (λ (x : Timestamp). is_timestamp x ≡ true) (some (committed copies) (writes copies)) (latest copies) (W copies)
          (λ _. latest-formed) (λ _. W-formed);
      waiting = none-waiting k;
    })

-- ---- the table after the change

module _ (t : Table) (f : Formed t) where
  abbrev creation : Creation
  creation = t.creation

  -- a copy in the set is the settled record; any other is emptied
  settled_at_lem : (c b : ℕ) → c < chunk_limit → b < block_limit → RecordAt creation c b (get_or (settled (copies_of t b)) c no_copy).held
  unfolding settled
  settled_at_lem c b l m =
      let copies = copies_of t b in
      let s = set_of creation b in
      let after : Copy → Record = λ x. cond (in_set x) (settled_record copies) (emptied x.held) in
      let now : Copy → Copy = λ x. record { member = x.member; lost = x.lost; held = after x } in
      rw (each-each-number now (copy_in creation t.chunks t.records b) chunk_limit c no_copy l)
      (walk (RecordAt creation c b) (c among s) (settled_record copies) (emptied (record_of t c b))
      (λ e.
      let d = set_of_block creation b c f.creation m l e in
      rw (of_store_lem creation s (set_of_store creation b f.creation d) c l e, d)
      (settled-formed creation copies (every-each-number (copy_formed creation) (copy_in creation t.chunks t.records b) chunk_limit (λ i n. record_of_lem t f i b n m))))
      (λ _. emptied-at creation c b (record_of t c b) (f.records c b l m)))

  -- a chunk of the store's is blank in the next epoch; any other is zero as it was
  abbrev now : (chunk : ℕ) → Chunk
  now = renewed creation (next t.epoch) t.chunks

  renewed-at : (c : ℕ) → c < chunk_limit
      → cond (is_chunk creation c) (chunk_formed creation (next t.epoch) (now c)) (is_zero_chunk (now c)) ≡ true
  renewed-at c l = go (is_chunk creation c) (f.chunks c l)
    where
      go : (x : Bool) → cond x (chunk_formed creation t.epoch (chunk_of t c)) (is_zero_chunk (chunk_of t c)) ≡ true
          → cond x (chunk_formed creation (next t.epoch) (cond x (anew (next t.epoch)) (chunk_of t c))) (is_zero_chunk (cond x (anew (next t.epoch)) (chunk_of t c))) ≡ true
      go true h = blank-formed creation (next t.epoch) (anew (next t.epoch)) (eq-eqb (t.epoch.0 + 1) (t.epoch.0 + 1) refl) refl
      go false h = h

  -- where there is a next epoch
  changed-formed : is_epoch (next t.epoch) ≡ true → Formed (epoch_changed t)
  changed-formed e = record {
    creation = f.creation;
    epoch = e;
    hosts = f.hosts;
    chunks = λ c l. rw (each_number now chunk_limit c no_chunk l) (renewed-at c l);
    records = (records-kept t f (λ c b. (get_or (settled (copies_of t b)) c no_copy).held) settled_at_lem).records;
    places = f.places;
  }

-- 15 epoch change
pub epoch-kept : (t : Table) → Keeps t (kind_of 15)
unfolding kind_of place
epoch-kept t _ _ _ f e p = changed-formed t f (epoch-next t.creation t.epoch t.chunks p f.epoch)
