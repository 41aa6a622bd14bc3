-- A formed part put into a well-formed table keeps it well formed
use Rattle.std.specs.Prelude.{None, Option, Some}
use Prim.Native.Nat.{ℕ, ◌<◌}
use mathlib.Core.Path.{◌≡◌, refl, ◌∙◌}
use mathlib.Core.Logic.{◌⊎◌, inl, inr}
use mathlib.Core.Bool.{true}
use mathlib.Core.List.{List}
use native.Mathlib.Omega.{arith}
use lib.ListN.{get_or, set}
use Rattle.rules.specs.Types.{Set, Creation, Record, Chunk, Host, Message, Table}
use Rattle.rules.specs.Codes.{code_of}
use Rattle.rules.specs.Creation.{of_store}
use Rattle.rules.specs.Events.{EventKind}
use Rattle.rules.specs.Formed.{host_formed, chunk_formed, message_formed, slot_formed, host_at, chunk_at, record_at}
use Rattle.rules.specs.Limits.{host_limit, chunk_limit, block_limit, place_limit}
use Rattle.rules.specs.Network.{is_free, removed, sent, chunks_of, sent_to_each, replied}
use Rattle.rules.specs.Operands.{all_in_range}
use Rattle.rules.specs.Tables.{is_host, is_chunk, at, record_of, records_by, with_host, with_chunk, with_records, with_record, with_places}
use Rattle.rules.specs.Words.{each, place, numbers}
use Rattle.rules.specs.Zero.{◌among◌, zero_place, no_host, no_chunk, no_record}
use Rattle.rules.proofs.Lists.{get_set, set_all, every-those, every-each, fold-keeps, grid-at}
use Rattle.rules.proofs.Formed.{Formed, FormedPlaces}

-- ---- events

-- a kind of event keeps well-formedness where it is granted
abbrev pub Keeps : Table → EventKind → Type 0
Keeps t k =
    (a b c : ℕ) → Formed t → all_in_range t.creation k.operands a b c ≡ true → code_of (k.rule t a b c).refusals ≡ 0
    → Formed (k.rule t a b c).effect.table

-- ---- a host, a chunk, records

abbrev pub RecordAt : Creation → (chunk block : ℕ) → Record → Type 0
RecordAt k c b r = record_at k c b r ≡ true

module _ (t : Table) (f : Formed t) where
  -- a formed host in its place
  pub host-kept : (h : ℕ) (x : Host) → is_host t.creation h ≡ true → host_formed t.creation x ≡ true → Formed (with_host t h x)
  host-kept h x e g = record {
    creation = f.creation;
    epoch = f.epoch;
    hosts = set_all (λ i y. i < host_limit → host_at t.creation i y ≡ true) no_host t.hosts h x (λ _. rw e g) f.hosts;
    chunks = f.chunks;
    records = f.records;
    places = f.places;
  }

  -- a formed chunk in its place
  pub chunk_kept : (c : ℕ) (x : Chunk) → is_chunk t.creation c ≡ true → chunk_formed t.creation t.epoch x ≡ true
      → Formed (with_chunk t c x)
  chunk_kept c x e g = record {
    creation = f.creation;
    epoch = f.epoch;
    hosts = f.hosts;
    chunks = set_all (λ i y. i < chunk_limit → chunk_at t.creation t.epoch i y ≡ true) no_chunk t.chunks c x (λ _. rw e g) f.chunks;
    records = f.records;
    places = f.places;
  }

  -- a record where it may stand
  pub record_kept : (c b : ℕ) (x : Record) → b < block_limit → RecordAt t.creation c b x → Formed (with_record t c b x)
  record_kept c b x l g = record {
    creation = f.creation;
    epoch = f.epoch;
    hosts = f.hosts;
    chunks = f.chunks;
    records = λ i j m n. go i j n (f.records i j m n) (get_set t.records (at c b) (at i j) x no_record);
    places = f.places;
  }
    where
      now : (i j : ℕ) → Record
      now i j = get_or (set t.records (at c b) x) (at i j) no_record

      go : (i j : ℕ) → j < block_limit → RecordAt t.creation i j (record_of t i j)
          → ((at i j ≡ at c b) × (now i j ≡ x)) ⊎ (now i j ≡ record_of t i j)
          → RecordAt t.creation i j (now i j)
      go i j n old (inl e) =
          let q = e.0 in
          let y : i ≡ c = omega arith in
          let z : j ≡ b = omega arith in
          rw e.1 (rw (y, z) g)
      go i j n old (inr e) = rw e old

  -- all records anew
  pub records-kept : (g : ℕ → ℕ → Record) → ((c b : ℕ) → c < chunk_limit → b < block_limit → RecordAt t.creation c b (g c b))
      → Formed (with_records t (records_by g))
  records-kept g h = record {
    creation = f.creation;
    epoch = f.epoch;
    hosts = f.hosts;
    chunks = f.chunks;
    records = λ c b l m. rw (grid-at g chunk_limit block_limit c b no_record l m) (h c b l m);
    places = f.places;
  }

  -- formed places
  places-kept : (l : List (Option Message)) → FormedPlaces t.creation l → Formed (with_places t l)
  places-kept l g = record {
    creation = f.creation;
    epoch = f.epoch;
    hosts = f.hosts;
    chunks = f.chunks;
    records = f.records;
    places = g;
  }

-- ---- messages

module _ (k : Creation) where
  -- what is formed laid in a place
  laid : (l : List (Option Message)) (p : ℕ) (x : Option Message) → FormedPlaces k l → slot_formed k x ≡ true → FormedPlaces k (set l p x)
  laid l p x f h = set_all (λ i (y : Option Message). i < place_limit → slot_formed k y ≡ true) zero_place l p x (λ _. h) f

  -- a formed message sent
  sent-formed : (l : List (Option Message)) (m : Message) → FormedPlaces k l → message_formed k m ≡ true → FormedPlaces k (sent l m)
  unfolding sent
  sent-formed l m f h = laid l (place is_free l) (Some m) f h

  -- a formed reply, or none
  replied-formed : (l : List (Option Message)) (s : Option Message) → FormedPlaces k l → slot_formed k s ≡ true → FormedPlaces k (replied l s)
  unfolding replied
  replied-formed l None f h = f
  replied-formed l (Some m) f h = sent-formed l m f h

module _ (t : Table) (f : Formed t) where
  -- a message removed
  pub removed-kept : (p : ℕ) → Formed (with_places t (removed t.places p))
  removed-kept p = places-kept t f (removed t.places p) (laid t.creation t.places p zero_place f.places refl)

  -- a reply sent, or none
  pub replied-kept : (s : Option Message) → slot_formed t.creation s ≡ true → Formed (with_places t (replied t.places s))
  replied-kept s h = places-kept t f (replied t.places s) (replied-formed t.creation t.places s f.places h)

  -- formed messages sent to a set of the store's chunks
  pub sent-to-each-kept : (to : Set) (m : (chunk : ℕ) → Message) → of_store t.creation to ≡ true
      → ((c : ℕ) → is_chunk t.creation c ≡ true → message_formed t.creation (m c) ≡ true)
      → Formed (with_places t (sent_to_each t.places to m))
  unfolding sent_to_each
  sent-to-each-kept to m h g =
      let k = t.creation in
      places-kept t f (sent_to_each t.places to m)
      (fold-keeps (message_formed k) (FormedPlaces k) sent (sent-formed k) t.places (each m (chunks_of to)) f.places
      (every-each (message_formed k) (is_chunk k) m (chunks_of to) g (every-those (is_chunk k) (λ c. c among to) (numbers chunk_limit) ∙ h)))
