-- Document 01, "Epoch change": "Settling takes all copies of one block together"
use Rattle.std.specs.Prelude.{ℕ, Bool, ◌&&◌, not, List, if◌then◌else◌}
use Rattle.rules.specs.Types.{Timestamp, Entry, Record, Copy}
use Rattle.rules.specs.Built.{copy_with}
use Rattle.rules.specs.Chunks.{emptied}
use Rattle.rules.specs.Kinds.{is_write, is_aborted, value_of}
use Rattle.rules.specs.Timestamps.{◌is◌, ◌above◌, greatest}
use Rattle.rules.specs.Waiting.{in_order}
use Rattle.rules.specs.Words.{those, each, joined, every, some, none, first}
use Rattle.rules.specs.Zero.{zero_entry, zero_waiting, no_copy}

-- ---- one copy

abbrev pub in_set : Copy → Bool
in_set c = c.member

-- of the set, and lost or not
abbrev pub is_lost : Copy → Bool
is_lost c = c.member && c.lost

abbrev pub not_lost : Copy → Bool
not_lost c = c.member && not c.lost

abbrev pub last_read : Copy → Timestamp
last_read c = c.held.read

abbrev pub last_write : Copy → Timestamp
last_write c = c.held.write

abbrev pub waiting : Copy → List Entry
waiting c = in_order c.held.waiting

-- "a write with it", and "an aborted one"
abbrev pub write_with : Timestamp → Entry → Bool
write_with t e = e.timestamp is t && is_write e.kind

abbrev pub aborted_with : Timestamp → Entry → Bool
aborted_with t e = e.timestamp is t && is_aborted e.kind

abbrev pub holds : Timestamp → Copy → Bool
holds t c = some (write_with t) (waiting c)

abbrev pub holds_aborted : Timestamp → Copy → Bool
holds_aborted t c = some (aborted_with t) (waiting c)

-- the timestamps of the writes that wait
abbrev pub writes_of : Copy → List Timestamp
writes_of c = each (λ e. e.timestamp) (those (λ e. is_write e.kind) (waiting c))

-- ---- all copies of one block. "'lost' chunks have only what persists"

module _ (copies : List Copy) where
  -- "W is the greatest last write over the set"
  unfoldable pub W : Timestamp
  W = greatest (each last_write (those in_set copies))

  -- "V the value beside it (lowest chunk if several)"
  unfoldable pub beside_w : ℕ
  beside_w = (first no_copy (λ c. in_set c && last_write c is W) copies).held.value

  -- "every chunk not lost holds a write with it, none an aborted one, and it is above the last read of every lost chunk"
  unfoldable pub agreed : Timestamp → Bool
  agreed t =
      every (holds t) (those not_lost copies)
      && none (holds_aborted t) (those not_lost copies)
      && every (λ c. t above last_read c) (those is_lost copies)

  -- "A write timestamp above W is committed when .."
  unfoldable pub committed : Timestamp → Bool
  committed t = t above W && agreed t

  -- the timestamps of the writes that wait in chunks not lost, and those that are committed
  unfoldable pub writes : List Timestamp
  writes = joined (each writes_of (those not_lost copies))

  unfoldable pub commits : List Timestamp
  commits = those committed writes

  -- "The latest committed one"
  unfoldable pub latest : Timestamp
  latest = greatest commits

  -- "Its value is that of the first such entry in the lowest such chunk"
  unfoldable pub written_with : Timestamp → ℕ
  written_with t = value_of (first zero_entry (write_with t) (waiting (first no_copy (λ c. not_lost c && holds t c) copies))).kind

  -- "The latest committed one, else V and W, becomes value and last write in every chunk of the set; last read becomes the
  -- greatest over the set"
  unfoldable pub settled_record : Record
  settled_record = record {
    value = if some committed writes then written_with latest else beside_w;
    read = greatest (each last_read (those in_set copies));
    write = if some committed writes then latest else W;
    waiting = zero_waiting;
  }

  -- "All queues of all chunks are emptied without messages"; copies outside the set keep the rest
  unfoldable pub settled : List Copy
  settled = each (λ c. copy_with c.member c.lost (if in_set c then settled_record else emptied c.held)) copies
