-- Document 01, "One session, whole": the event that a line asks for, and the creation that the first two lines name
use Rattle.std.specs.Prelude.{ℕ, ◌+◌, ◌/◌, ◌%◌, ◌^◌, Bool, ◌&&◌, length, get_or, eqb, ltb, if◌then◌else◌, Option, Some, None}
use Rattle.rules.specs.declared.Set.{Set}
use Rattle.rules.specs.declared.Event.{Event}
use Rattle.rules.specs.declared.Creation.{Creation}
use Rattle.rules.specs.Built.{creation_of}
use Rattle.rules.specs.Events.{kind_of}
use Rattle.rules.specs.Limits.{chunk_limit}
use Rattle.rules.specs.Operands.{own_of}
use Rattle.rules.specs.Words.{each, every, numbers}
use Rattle.text_numbers.specs.declared.Line.{Line}

-- the number at a place of the line, from 0 on; 0 where the line has none there
abbrev pub number_at : Line → (place : ℕ) → ℕ
number_at l i = get_or l.numbers i 0

-- ---- "then an event a line, its number and then only its own operands"

-- an unknown kind has none of its own, which is no choice: whatever follows it, its line gets `1 0 0 0 0`, as an event that is refused
-- or as a bad line
abbrev pub own_count : (kind : ℕ) → ℕ
own_count kind = length (own_of (kind_of kind).operands)

-- "A bad event line (wrong count, not a number, ..)" asks for none; an operand that the kind lacks is 0
unfoldable pub asked_by : Option Line → Option Event
asked_by None = None
asked_by (Some l) =
    if eqb l.count (1 + own_count (number_at l 0))
    then Some (record { kind = number_at l 0; a = number_at l 1; b = number_at l 2; c = number_at l 3 })
    else None

-- ---- "a line of hosts, chunks, blocks, age limit; a line with one number a block, the sum of 2 to the power c over its chunks c"

-- a sum over some of the chunks 0 to 7
abbrev pub is_sum : ℕ → Bool
is_sum n = ltb n (2 ^ chunk_limit)

-- the chunks c whose 2 to the power c is in the sum n
abbrev pub set_with : (n : ℕ) → Set
set_with n = record { chunks = each (λ c. eqb (n / 2 ^ c % 2) 1) (numbers chunk_limit) }

-- "bad first lines" name none: a first one without four numbers, a second one without a number a block or with one that is no sum. A
-- line's unused places are 0, the sum over no chunk. Whether there is such a store, creation says
unfoldable pub named_by : (first second : Option Line) → Option Creation
named_by None second = None
named_by (Some first) None = None
named_by (Some first) (Some second) =
    if eqb first.count 4 && eqb second.count (number_at first 2) && every is_sum second.numbers
    then Some (creation_of (number_at first 0) (number_at first 1) (number_at first 2) (number_at first 3) (each set_with second.numbers))
    else None
