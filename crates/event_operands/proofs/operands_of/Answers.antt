use Rattle.std.proofs.Common.{◌∙◌, sym, ap}
use Rattle.rules.specs.Events.{EventKind}
use Rattle.event_operands.proofs.Laws.{kind_named}
use Rattle.event_operands.proofs.operands_of.Goals as goal

pub returns-in-Ok : goal.returns-in-Ok
returns-in-Ok c = c.operands.ensures ∙ ap (λ (k : EventKind). k.operands) (rw (sym c.try_from.ensures ∙ c.in-Ok.is) at (kind_named c.args.kind))

pub returns-in-Err : goal.returns-in-Err
returns-in-Err c = ap (λ (k : EventKind). k.operands) (rw (sym c.try_from.ensures ∙ c.in-Err.is) at (kind_named c.args.kind))
