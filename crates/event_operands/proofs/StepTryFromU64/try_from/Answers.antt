-- No step has another number
use Rattle.std.proofs.Common.{rules}
use Rattle.event_operands.proofs.Laws.{no_step}
use Rattle.event_operands.proofs.StepTryFromU64.try_from.Goals as goal

pub returns-in_default : goal.returns-in_default
returns-in_default c = no_step c.args.kind (search rules)
