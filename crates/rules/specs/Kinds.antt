-- The enums, case by case
use Rattle.std.specs.Prelude.{ℕ, Bool, true, false, not, None, Option, Some}
use Rattle.rules.specs.Types.{Kind, State, Action, Message}

-- ---- an entry: "a read, an undecided write, a committed write or an aborted write; a write has its value"

abbrev pub is_read : Kind → Bool
is_read Kind.Read = true
is_read (Kind.Undecided v) = false
is_read (Kind.Committed v) = false
is_read (Kind.Aborted v) = false

abbrev pub is_undecided : Kind → Bool
is_undecided Kind.Read = false
is_undecided (Kind.Undecided v) = true
is_undecided (Kind.Committed v) = false
is_undecided (Kind.Aborted v) = false

abbrev pub is_aborted : Kind → Bool
is_aborted Kind.Read = false
is_aborted (Kind.Undecided v) = false
is_aborted (Kind.Committed v) = false
is_aborted (Kind.Aborted v) = true

abbrev pub is_write : Kind → Bool
is_write k = not (is_read k)

abbrev pub value_of : Kind → ℕ
value_of Kind.Read = 0
value_of (Kind.Undecided v) = v
value_of (Kind.Committed v) = v
value_of (Kind.Aborted v) = v

-- ---- a chunk: "normal, nolease or failed"

abbrev pub is_normal : State → Bool
is_normal State.Normal = true
is_normal State.Nolease = false
is_normal State.Failed = false

abbrev pub is_nolease : State → Bool
is_nolease State.Normal = false
is_nolease State.Nolease = true
is_nolease State.Failed = false

abbrev pub is_failed : State → Bool
is_failed State.Normal = false
is_failed State.Nolease = false
is_failed State.Failed = true

-- ---- an operation: a read or a write

abbrev pub is_reading : Action → Bool
is_reading Action.Read = true
is_reading (Action.Write v) = false

-- ---- a place of the network

abbrev pub is_empty_slot : Option Message → Bool
is_empty_slot None = true
is_empty_slot (Some m) = false
