-- Records that are made anew, each in one place; all others are a record with a field changed (with_epoch, ..)
use Rattle.std.specs.Prelude.{ℕ, Bool, false, List, replicate}
use Rattle.rules.specs.Types.{Epoch, Set, Creation, Kind, Entry, Record, State, Chunk, Action, Operation, Timestamp, Copy}
use Rattle.rules.specs.Limits.{block_limit}

-- what a store is created with
abbrev pub creation_of : (hosts chunks blocks age : ℕ) → List Set → Creation
creation_of hosts chunks blocks age sets = record { hosts = hosts; chunks = chunks; blocks = blocks; age = age; sets = sets }

-- what waits at a chunk
abbrev pub entry_with : Timestamp → (sender : ℕ) → Epoch → Kind → Entry
entry_with t sender epoch kind = record { timestamp = t; sender = sender; epoch = epoch; kind = kind }

-- a chunk that has lost nothing and has nothing to reconcile
abbrev pub no_blocks : List Bool
no_blocks = replicate block_limit false

abbrev pub blank : State → Epoch → Chunk
blank state epoch = record { state = state; lost = false; epoch = epoch; reconcile = no_blocks }

-- one chunk's copy of a block
abbrev pub copy_with : (member lost : Bool) → Record → Copy
copy_with member lost r = record { member = member; lost = lost; held = r }

-- what a host is asked to do
abbrev pub operation_of : (block : ℕ) → Action → Operation
operation_of block action = record { block = block; action = action }
