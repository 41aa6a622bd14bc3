-- With a number and a clock in their ranges, the start is as the rules say it
use Rattle.std.specs.Prelude.{Result}
use Prim.Native.Nat.{ℕ, ◌≤◌, ◌<◌}
use mathlib.Core.Path.{◌≡◌, refl}
use borrow.Author.Tests.{lt-leb, le-ltb}
use Rattle.rules.specs.declared.Host.{Host}
use Rattle.rules.specs.declared.Outcome.{Outcome}
use Rattle.rules.specs.declared.Refused.{Refused}
use Rattle.rules.specs.declared.Set.{Set}
use Rattle.rules.specs.Codes.{ruled, code_of}
use Rattle.rules.specs.Words.{each, joined}
use Rattle.rules.specs.Hosts.{front, start_refusals, opening_to, opening, started}
use Rattle.rules.specs.Limits.{host_limit, greatest_clock}
use Rattle.rules.specs.Messages.{headed, asking}
use Rattle.rules.specs.Network.{how_many}
use Rattle.rules.specs.Timestamps.{stamp}
use Rattle.network_places.specs.Sending.{messages_to}
use Rattle.host_attempts.specs.declared.Sent.{Sent}
use Rattle.host_attempts.specs.Moves.{starts}

module _ (number clock copy : ℕ) (holders : Set) (h : Host) (free : ℕ) where
  abbrev as_ruled : Result Sent Refused
  as_ruled =
      let o = front h in
      let to = opening_to o.action copy holders in
      let now = stamp clock number in
      ruled (start_refusals h clock copy holders free (how_many to)) (record {
        host = started h now clock to;
        messages = messages_to to (λ chunk. asking (headed number chunk o.block now) h.epoch (opening o.action));
        outcome = Outcome.None;
      })

  pub start_ruled : number < host_limit → clock ≤ greatest_clock → starts number clock copy holders h free ≡ as_ruled
  unfolding starts each joined code_of
  start_ruled host range = rw (lt-leb host_limit number host, le-ltb greatest_clock clock range) refl
