-- What the functions on parts of the table are held to
use Rattle.std.specs.Prelude.{ℕ, ◌/◌, ◌%◌, Bool, []}
use Rattle.rules.specs.declared.Creation.{Creation}
use Rattle.rules.specs.declared.Record.{Record}
use Rattle.rules.specs.Formed.{record_at}
use Rattle.rules.specs.Limits.{block_limit}
use Rattle.table_sound.specs.declared.Counts.{Counts}

-- a creation of these counts: the rules about a store's parts look at no more of it
abbrev pub counted : Counts → Creation
counted n = record { hosts = n.hosts; chunks = n.chunks; blocks = n.blocks; age = 0; sets = [] }

abbrev pub counts_of : Creation → Counts
counts_of k = record { hosts = k.hosts; chunks = k.chunks; blocks = k.blocks }

-- record i of the table is chunk i / 16's of block i % 16
abbrev pub record_of_number : Counts → ℕ → Record → Bool
record_of_number n i r = record_at (counted n) (i / block_limit) (i % block_limit) r
