-- The network: "64 places .. New messages go to the lowest free places, by ascending chunk"
use Rattle.std.specs.Prelude.{ℕ, Bool, List, set, length, None, Option, Some}
use Rattle.rules.specs.Types.{Set, Message}
use Rattle.rules.specs.Codes.{Row, ◌gives◌⨾◌, granted}
use Rattle.rules.specs.Kinds.{is_empty_slot}
use Rattle.rules.specs.Limits.{chunk_limit}
use Rattle.rules.specs.Words.{those, each, place, fold, numbers}
use Rattle.rules.specs.Zero.{◌among◌, zero_place}

abbrev pub is_free : Option Message → Bool
is_free p = is_empty_slot p

unfoldable pub free_places : List (Option Message) → ℕ
free_places places = length (those is_free places)

-- "The message is removed"
abbrev pub removed : List (Option Message) → ℕ → List (Option Message)
removed places p = set places p zero_place

-- "New messages go to the lowest free places"
unfoldable pub sent : List (Option Message) → Message → List (Option Message)
sent places m = set places (place is_free places) (Some m)

-- ".. by ascending chunk": message m c to each chunk c of the set
abbrev pub chunks_of : Set → List ℕ
chunks_of to = those (λ c. c among to) (numbers chunk_limit)

unfoldable pub how_many : Set → ℕ
how_many to = length (chunks_of to)

unfoldable pub sent_to_each : List (Option Message) → Set → ((chunk : ℕ) → Message) → List (Option Message)
sent_to_each places to m = fold sent places (each m (chunks_of to))

-- "Its reply, if any, takes the lowest free place"
unfoldable pub replied : List (Option Message) → Option Message → List (Option Message)
replied places None = places
replied places (Some m) = sent places m

-- "4 deliver (place), 5 drop (place). Empty place: 2"
abbrev pub place_refusals : Option Message → List Row
place_refusals slot =
    is_empty_slot slot gives 2 ⨾
    granted
