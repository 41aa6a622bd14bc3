-- The table: its parts, and the table with one part changed
use Rattle.std.specs.Prelude.{ℕ, ◌+◌, ◌*◌, Bool, List, get_or, set, ltb, Option}
use Rattle.rules.specs.Types.{Epoch, Set, Creation, Record, Chunk, Host, Table, Message}
use Rattle.rules.specs.Limits.{chunk_limit, block_limit}
use Rattle.rules.specs.Words.{each, joined, numbers}
use Rattle.rules.specs.Zero.{no_set, no_chunk, no_record, no_host, zero_place}

-- ---- "Host, chunk and block numbers, in events too, are below the store's counts"

abbrev pub is_host : Creation → ℕ → Bool
is_host k h = ltb h k.hosts

abbrev pub is_chunk : Creation → ℕ → Bool
is_chunk k c = ltb c k.chunks

abbrev pub is_block : Creation → ℕ → Bool
is_block k b = ltb b k.blocks

-- ---- parts

-- "the set of chunks that hold its copies"
abbrev pub set_of : Creation → (block : ℕ) → Set
set_of k b = get_or k.sets b no_set

abbrev pub host_of : Table → ℕ → Host
host_of t h = get_or t.hosts h no_host

abbrev pub chunk_of : Table → ℕ → Chunk
chunk_of t c = get_or t.chunks c no_chunk

-- where chunk c has block b among the records
abbrev pub at : (chunk block : ℕ) → ℕ
at c b = c * block_limit + b

abbrev pub record_of : Table → (chunk block : ℕ) → Record
record_of t c b = get_or t.records (at c b) no_record

-- the records of all chunks and blocks, each in its place
abbrev pub records_by : ((chunk block : ℕ) → Record) → List Record
records_by f = joined (each (λ c. each (f c) (numbers block_limit)) (numbers chunk_limit))

abbrev pub slot_of : List (Option Message) → ℕ → Option Message
slot_of places p = get_or places p zero_place

-- ---- the table with one part changed

abbrev pub with_epoch : Table → Epoch → Table
with_epoch t x = record { creation = t.creation; epoch = x; hosts = t.hosts; chunks = t.chunks; records = t.records; places = t.places }

abbrev pub with_hosts : Table → List Host → Table
with_hosts t x = record { creation = t.creation; epoch = t.epoch; hosts = x; chunks = t.chunks; records = t.records; places = t.places }

abbrev pub with_chunks : Table → List Chunk → Table
with_chunks t x = record { creation = t.creation; epoch = t.epoch; hosts = t.hosts; chunks = x; records = t.records; places = t.places }

abbrev pub with_records : Table → List Record → Table
with_records t x = record { creation = t.creation; epoch = t.epoch; hosts = t.hosts; chunks = t.chunks; records = x; places = t.places }

abbrev pub with_places : Table → List (Option Message) → Table
with_places t x = record { creation = t.creation; epoch = t.epoch; hosts = t.hosts; chunks = t.chunks; records = t.records; places = x }

abbrev pub with_host : Table → ℕ → Host → Table
with_host t h x = with_hosts t (set t.hosts h x)

abbrev pub with_chunk : Table → ℕ → Chunk → Table
with_chunk t c x = with_chunks t (set t.chunks c x)

abbrev pub with_record : Table → (chunk block : ℕ) → Record → Table
with_record t c b x = with_records t (set t.records (at c b) x)
