-- Which place, host, chunk and block an event is about
use Rattle.std.specs.Prelude.{ℕ, Bool, true, false, List, [], ◌∷◌, find, if◌then◌else◌, None, Option, Some}
use Rattle.std.specs.List.{list_any}
use Rattle.std.specs.Option.{option_map_or}
use Rattle.rules.specs.declared.Message.{Message}
use Rattle.rules.specs.declared.Host.{Host}
use Rattle.rules.specs.declared.Header.{Header}
use Rattle.rules.specs.declared.Event.{Event}
use Rattle.rules.specs.declared.Operand.{Operand}
use Rattle.rules.specs.Events.{kind_of}
use Rattle.rules.specs.Hosts.{front}
use Rattle.rules.specs.Timestamps.{never}
use Rattle.rules.specs.Messages.{header_of, headed}

-- ---- the operand of a sort

infix 40 ◌is_a◌
abbrev pub ◌is_a◌ : Operand → Operand → Bool
Operand.Unknown is_a Operand.Unknown = true
Operand.Unused is_a Operand.Unused = true
Operand.Host is_a Operand.Host = true
Operand.Chunk is_a Operand.Chunk = true
Operand.Block is_a Operand.Block = true
Operand.Place is_a Operand.Place = true
Operand.Clock is_a Operand.Clock = true
Operand.Now is_a Operand.Now = true
Operand.Value is_a Operand.Value = true
_ is_a _ = false

-- each operand with its number
unfoldable pub operands_of : Event → List (Operand × ℕ)
operands_of e = let o = (kind_of e.kind).operands in (o.0, e.a) ∷ (o.1, e.b) ∷ (o.2, e.c) ∷ []

abbrev pub has_a : Event → (sort : Operand) → Bool
has_a e sort = list_any (λ x. x.0 is_a sort) (operands_of e)

-- 0 where the event has none
abbrev pub the : (sort : Operand) → Event → ℕ
the sort e = option_map_or (λ x. x.1) (find (λ x. x.0 is_a sort) (operands_of e)) 0

-- ---- whom an event is about: an event of a place is about whom its message names

-- an empty place (it is refused) names nobody, that is zeros
abbrev pub address_of : Option Message → Header
address_of None = headed 0 0 0 never
address_of (Some m) = header_of m

abbrev pub place_at : Event → ℕ
place_at e = the Operand.Place e

abbrev pub host_at : Event → Option Message → ℕ
host_at e s = if has_a e Operand.Place then (address_of s).host else the Operand.Host e

abbrev pub chunk_at : Event → Option Message → ℕ
chunk_at e s = if has_a e Operand.Place then (address_of s).chunk else the Operand.Chunk e

-- an event that names no block is about the block of the host's front operation
abbrev pub block_at : Event → Option Message → Host → ℕ
block_at e s h =
    if has_a e Operand.Place then (address_of s).block else
    if has_a e Operand.Block then the Operand.Block e else
    (front h).block
