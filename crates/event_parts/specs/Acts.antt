-- One event on the parts of the table that it touches. What it leaves to who holds the table: to store the parts, to remove the
-- message of a place that is delivered or dropped, and to put the new messages into the network
use Rattle.std.specs.Prelude.{if◌then◌else◌, None, Option, Some, Result, Ok, Err}
use Rattle.rules.specs.declared.Message.{Message}
use Rattle.rules.specs.declared.Chunk.{Chunk}
use Rattle.rules.specs.declared.Action.{Action}
use Rattle.rules.specs.declared.Host.{Host}
use Rattle.rules.specs.declared.Arrived.{Arrived}
use Rattle.rules.specs.declared.Event.{Event}
use Rattle.rules.specs.declared.Outcome.{Outcome}
use Rattle.rules.specs.declared.Refused.{Refused}
use Rattle.rules.specs.Built.{operation_of}
use Rattle.rules.specs.Chunks.{arrives, run_refusals, ran, recover_refusals, recovered, take_lease_refusals, lease_taken, give_lease_refusals, lease_given, overdue_refusals, overdue}
use Rattle.rules.specs.Codes.{ruled}
use Rattle.rules.specs.Hosts.{intake_refusals, appended, hears, timeout_refusals, timed_out, working_refusals, refreshed, stopped}
use Rattle.rules.specs.Messages.{sort_of, is_for_chunk}
use Rattle.rules.specs.Network.{place_refusals}
use Rattle.host_attempts.specs.declared.Sent.{Sent}
use Rattle.host_attempts.specs.Moves.{starts, finishes}
use Rattle.network_places.specs.Sending.{only_reply, no_messages}
use Rattle.event_operands.specs.declared.Step.{Step}
use Rattle.event_operands.specs.Steps.{step_named}
use Rattle.event_parts.specs.declared.Parts.{Parts}
use Rattle.event_parts.specs.declared.Acted.{Acted}

-- what f makes of what is granted; a refusal stays one
abbrev pub granting : {A B : Type 0} → (A → B) → Result A Refused → Result B Refused
granting f (Ok x) = Ok (f x)
granting f (Err why) = Err why

-- ---- what is left of the parts

-- the parts as they were, no message and no outcome
abbrev pub unchanged : Parts → Acted
unchanged p = record { host = p.host; chunk = p.chunk; held = p.held; messages = no_messages; outcome = Outcome.None }

-- .. where an event changes the host alone; the host, which sends; the chunk alone; what a request or a run reaches: the chunk and
-- its record

abbrev pub by_host : Parts → Host → Acted
by_host p h = record { host = h; chunk = p.chunk; held = p.held; messages = no_messages; outcome = Outcome.None }

abbrev pub by_messages : Parts → Sent → Acted
by_messages p s = record { host = s.host; chunk = p.chunk; held = p.held; messages = s.messages; outcome = s.outcome }

abbrev pub by_chunk : Parts → Chunk → Acted
by_chunk p c = record { host = p.host; chunk = c; held = p.held; messages = no_messages; outcome = Outcome.None }

abbrev pub by_arrived : Parts → Arrived → Acted
by_arrived p a = record { host = p.host; chunk = a.chunk; held = a.held; messages = only_reply a.reply; outcome = Outcome.None }

-- a request is the chunk's, a reply the host's; an empty place has nothing for anybody
abbrev pub delivered : Parts → Option Message → Acted
delivered p None = unchanged p
delivered p (Some m) = if is_for_chunk (sort_of m) then by_arrived p (arrives p.creation.blocks p.chunk p.held m) else by_host p (hears p.host m)

-- ---- the events

abbrev pub acts : Step → Event → Parts → Result Acted Refused
acts Step.Read e p = granting (by_host p) (ruled (intake_refusals p.host) (appended p.host (operation_of e.b Action.Read)))
acts Step.Write e p = granting (by_host p) (ruled (intake_refusals p.host) (appended p.host (operation_of e.b (Action.Write e.c))))
acts Step.Start e p = granting (by_messages p) (starts e.a e.b e.c p.set p.host p.free)
acts Step.Deliver e p = ruled (place_refusals p.slot) (delivered p p.slot)
acts Step.Drop e p = ruled (place_refusals p.slot) (unchanged p)
acts Step.Finish e p = granting (by_messages p) (finishes e.a p.set p.host p.free)
acts Step.Timeout e p = granting (by_host p) (ruled (timeout_refusals p.host) (timed_out p.host))
acts Step.Refresh e p = granting (by_host p) (ruled (working_refusals p.host) (refreshed p.host p.epoch))
acts Step.Run e p = granting (by_arrived p) (ruled (run_refusals p.chunk.state p.held.waiting p.free) (ran e.a e.b p.chunk p.held))
acts Step.Stop e p = granting (by_host p) (ruled (working_refusals p.host) (stopped p.host))
acts Step.Recover e p = granting (by_chunk p) (ruled (recover_refusals p.chunk.state) (recovered p.chunk))
acts Step.TakeLease e p = granting (by_chunk p) (ruled (take_lease_refusals p.chunk.state) (lease_taken p.chunk))
acts Step.GiveLease e p = granting (by_chunk p) (ruled (give_lease_refusals p.chunk.state p.chunk.lost) (lease_given p.chunk))
acts Step.Overdue e p = granting (by_chunk p) (ruled (overdue_refusals p.chunk.state p.held.waiting e.c p.creation.age) (overdue p.chunk e.b))
-- not done on parts
acts Step.Fail e p = Err Refused.OutOfRange
acts Step.EpochChange e p = Err Refused.OutOfRange

abbrev pub acts_named : Result Step Refused → Event → Parts → Result Acted Refused
acts_named (Ok step) e p = acts step e p
acts_named (Err why) e p = Err why

-- "unknown kind" here is one that is not done on parts too: 11 fail and 15 epoch change
unfoldable pub acted : Event → Parts → Result Acted Refused
acted e = acts_named (step_named e.kind) e
