-- "For drawing, each host's clock keeper hands out a number and remembers it"
use Rattle.std.specs.Prelude.{ℕ, List, ltb, leb, Result}
use Rattle.rules.specs.Codes.{Row, ◌gives◌⨾◌, granted, unless_refused, ruled}
use Rattle.rules.specs.Limits.{host_limit, greatest_clock}
use Rattle.rules.specs.Timestamps.{stamp}
use Rattle.rules.specs.declared.Refused.{Refused}
use Rattle.rules.specs.declared.Timestamp.{Timestamp}
use Rattle.host_keeper.specs.declared.Drawn.{Drawn}
use Rattle.host_keeper.specs.declared.Keeper.{Keeper}

-- "number outside its range" (1): no host's, or above 4,294,967,295; "clock not above the host's last drawn" (3)
abbrev pub draw_refusals : Keeper → (clock : ℕ) → List Row
draw_refusals k clock =
    leb host_limit k.host gives 1 ⨾
    ltb greatest_clock clock gives 1 ⨾
    leb clock k.last gives 3 ⨾
    granted

-- what a draw hands out
abbrev pub handed : Keeper → (clock : ℕ) → Result Timestamp Refused
handed k clock = ruled (draw_refusals k clock) (stamp clock k.host)

-- the clock is remembered
abbrev pub with_last : Keeper → (clock : ℕ) → Keeper
with_last k clock = record { host = k.host; last = clock }

-- a refused draw leaves the keeper as it was; a granted one remembers the clock
abbrev pub kept : Keeper → (clock : ℕ) → Keeper
kept k clock = unless_refused (draw_refusals k clock) k (with_last k clock)

-- the keeper after a draw that is granted, and what was handed out
abbrev pub drawn : Keeper → (clock : ℕ) → Result Drawn Refused
drawn k clock = ruled (draw_refusals k clock) (record { keeper = with_last k clock; timestamp = stamp clock k.host })
