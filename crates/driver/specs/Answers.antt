-- Document 01, "One session, whole": what a line is answered
use Rattle.std.specs.Prelude.{Option, Some, None}
use Rattle.rules.specs.declared.Table.{Table}
use Rattle.rules.specs.declared.Event.{Event}
use Rattle.rules.specs.declared.Answer.{Answer}
use Rattle.rules.specs.Events.{step, refused}

-- "A bad event line .. writes `1 0 0 0 0` and is passed over"
abbrev pub answer_to : Table → Option Event → Answer
answer_to t (Some e) = step t e
answer_to t None = refused t 1
