-- Document 01, "Codes": "number outside its range, unknown kind, unused operand not 0", for each sort of operand
use Rattle.std.specs.Prelude.{ℕ, Bool, true, false, ◌&&◌, List, [], ◌∷◌, eqb, ltb}
use Rattle.rules.specs.Types.{Creation, Operand, Operands}
use Rattle.rules.specs.Limits.{place_limit, greatest_clock, up_to, one_to}
use Rattle.rules.specs.Tables.{is_host, is_chunk, is_block}
use Rattle.rules.specs.Words.{those}

-- the three operands of a kind, in their order
infix 7 ◌∥◌∥◌
abbrev pub ◌∥◌∥◌ : Operand → Operand → Operand → Operands
x ∥ y ∥ z = record { 0 = x; 1 = y; 2 = z }

abbrev pub in_range : Creation → Operand → ℕ → Bool
in_range k Operand.Unknown n = false
in_range k Operand.Unused n = eqb n 0
in_range k Operand.Host n = is_host k n
in_range k Operand.Chunk n = is_chunk k n
in_range k Operand.Block n = is_block k n
in_range k Operand.Place n = ltb n place_limit
in_range k Operand.Clock n = one_to greatest_clock n
in_range k Operand.Now n = up_to greatest_clock n
in_range k Operand.Value n = true

abbrev pub all_in_range : Creation → Operands → (a b c : ℕ) → Bool
all_in_range k o a b c = in_range k o.0 a && in_range k o.1 b && in_range k o.2 c

-- the operands that a kind has: "its number and then only its own operands"
abbrev pub is_own : Operand → Bool
is_own Operand.Unknown = false
is_own Operand.Unused = false
is_own Operand.Host = true
is_own Operand.Chunk = true
is_own Operand.Block = true
is_own Operand.Place = true
is_own Operand.Clock = true
is_own Operand.Now = true
is_own Operand.Value = true

abbrev pub own_of : Operands → List Operand
own_of o = those is_own (o.0 ∷ o.1 ∷ o.2 ∷ [])
