-- The start and the finish of an attempt, refusal and effect together
use Rattle.std.specs.Prelude.{ℕ, List, [], ◌∷◌, eqb, if◌then◌else◌, Result}
use Rattle.rules.specs.declared.Host.{Host}
use Rattle.rules.specs.declared.Outcome.{Outcome}
use Rattle.rules.specs.declared.Refused.{Refused}
use Rattle.rules.specs.declared.Set.{Set}
use Rattle.rules.specs.Codes.{Row, ruled}
use Rattle.rules.specs.Hosts.{front, start_refusals, opening_to, opening, started, finish_refusals, closing_to, closing, finish_outcome, finished}
use Rattle.rules.specs.Messages.{headed, asking}
use Rattle.rules.specs.Network.{how_many}
use Rattle.rules.specs.Timestamps.{stamp}
use Rattle.rules.specs.Words.{each, joined}
use Rattle.host_keeper.specs.declared.Keeper.{Keeper}
use Rattle.host_keeper.specs.Keeper.{draw_refusals}
use Rattle.network_places.specs.Sending.{messages_to}
use Rattle.host_attempts.specs.declared.Sent.{Sent}

-- "each host's clock keeper": the host's number, and the clock that it drew last
abbrev pub keeper_of : (number : ℕ) → Host → Keeper
keeper_of number h = record { host = number; last = h.clock }

-- "clock (3)" is the keeper's to grant: in its place stand the keeper's refusals
abbrev pub by_keeper : Keeper → (clock : ℕ) → Row → List Row
by_keeper k clock r = if eqb r.code 3 then draw_refusals k clock else r ∷ []

-- "3 start (host, clock from 1, copy)", with the clock that the host's keeper hands out
unfoldable pub starts : (number clock copy : ℕ) → Set → Host → (free : ℕ) → Result Sent Refused
starts number clock copy holders h free =
    let o = front h in
    let to = opening_to o.action copy holders in
    let now = stamp clock number in
    ruled (joined (each (by_keeper (keeper_of number h) clock) (start_refusals h clock copy holders free (how_many to)))) (record {
      host = started h now clock to;
      messages = messages_to to (λ chunk. asking (headed number chunk o.block now) h.epoch (opening o.action));
      outcome = Outcome.None;
    })

-- "6 finish (host)"
unfoldable pub finishes : (number : ℕ) → Set → Host → (free : ℕ) → Result Sent Refused
finishes number holders h free =
    let o = front h in
    let to = closing_to o.action holders in
    ruled (finish_refusals h free (how_many to)) (record {
      host = finished h;
      messages = messages_to to (λ chunk. asking (headed number chunk o.block h.attempt.timestamp) h.epoch (closing h.attempt.okay));
      outcome = finish_outcome number h;
    })
