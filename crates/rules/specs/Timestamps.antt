-- Timestamps and epochs: only like values are compared
use Rattle.std.specs.Prelude.{ℕ, ◌+◌, ◌*◌, ◌/◌, Bool, List, eqb, ltb, if◌then◌else◌}
use Rattle.rules.specs.Types.{Timestamp, Epoch}
use Rattle.rules.specs.Limits.{up_to, greatest_clock, clock_factor, greatest_timestamp}
use Rattle.rules.specs.Words.{fold}

-- "A timestamp is clock x 8 + host number"
abbrev pub stamp : (clock host : ℕ) → Timestamp
stamp clock host = record { 0 = clock * clock_factor + host }

abbrev pub clock_of : Timestamp → ℕ
clock_of t = t.0 / clock_factor

-- "0 means 'never'"
abbrev pub never : Timestamp
never = record { 0 = 0 }

infix 40 ◌is◌ ◌above◌ ◌below◌ ◌same◌
abbrev pub ◌is◌ : Timestamp → Timestamp → Bool
t is u = eqb t.0 u.0

abbrev pub ◌above◌ : Timestamp → Timestamp → Bool
t above u = ltb u.0 t.0

abbrev pub ◌below◌ : Timestamp → Timestamp → Bool
t below u = ltb t.0 u.0

abbrev pub later : Timestamp → Timestamp → Timestamp
later t u = if u above t then u else t

-- the greatest of a list; never where it is empty
abbrev pub greatest : List Timestamp → Timestamp
greatest l = fold later never l

abbrev pub is_timestamp : Timestamp → Bool
is_timestamp t = up_to greatest_timestamp t.0

-- one epoch
abbrev pub ◌same◌ : Epoch → Epoch → Bool
e same f = eqb e.0 f.0

abbrev pub no_epoch : Epoch
no_epoch = record { 0 = 0 }

-- "the epoch grows by one"
abbrev pub next : Epoch → Epoch
next e = record { 0 = e.0 + 1 }

abbrev pub is_epoch : Epoch → Bool
is_epoch e = up_to greatest_clock e.0
