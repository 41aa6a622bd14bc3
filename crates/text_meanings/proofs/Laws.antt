-- The tests of an event's line and of the first two lines
use Prim.Native.Nat.{ℕ, ◌≤◌}
use mathlib.Core.List.{[], ◌∷◌}
use Rattle.rules.specs.Events.{kind_of}
use Rattle.rules.specs.Operands.{is_own}
use Rattle.rules.proofs.Lists.{those_short}
use Rattle.text_meanings.specs.Meanings.{own_count}

-- ---- operands

pub own_few : (kind : ℕ) → own_count kind ≤ 3
own_few kind = let o = (kind_of kind).operands in those_short is_own (o.0 ∷ o.1 ∷ o.2 ∷ [])
