-- The new messages of one event, at most one a chunk, and how they go to the network
use Rattle.std.specs.Prelude.{ℕ, List, set, replicate, if◌then◌else◌, None, Option, Some}
use Rattle.rules.specs.declared.Set.{Set}
use Rattle.rules.specs.declared.Message.{Message}
use Rattle.rules.specs.Limits.{chunk_limit}
use Rattle.rules.specs.Network.{replied}
use Rattle.rules.specs.Words.{each, fold, numbers}
use Rattle.rules.specs.Zero.{◌among◌, zero_place}

-- "Its reply, if any": the first, and the only one
abbrev pub only_reply : Option Message → List (Option Message)
only_reply s = set (replicate chunk_limit zero_place) 0 s

abbrev pub no_messages : List (Option Message)
no_messages = only_reply None

-- message m c to each chunk c of the set: it stands at the chunk's number
unfoldable pub messages_to : Set → ((chunk : ℕ) → Message) → List (Option Message)
messages_to to m = each (λ c. if c among to then Some (m c) else None) (numbers chunk_limit)

-- "New messages go to the lowest free places", in their order
abbrev pub sent_all : (places messages : List (Option Message)) → List (Option Message)
sent_all places messages = fold replied places messages
