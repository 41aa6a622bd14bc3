use Rattle.std.proofs.Common.{refl, sym, ap, ◌∙◌, ◌+◌, drop, arith}
use Rattle.rules.specs.declared.Table.{Table}
use Rattle.rules.specs.Words.{fold}
use Rattle.rules.specs.Zero.{zero_place}
use Rattle.rules.proofs.Loops.{fold_more, fold_end}
use Rattle.event_lent.proofs.Laws.{sending, sending-all}
use Rattle.event_lent.proofs.send_each.Goals as goal

pub loop-m-init : goal.loop-m-init
loop-m-init c = refl

pub loop-m-preserved : goal.loop-m-preserved
loop-m-preserved c =
    ap (λ (t : Table). fold sending t (drop (c.loop-m.m-index + 1) c.args.messages)) c.send_in.ensures
    ∙ sym (fold_more sending zero_place c.args.messages c.loop-m.m-index c.loop-m.t (omega arith))
    ∙ c.loop-m.invariant

pub returns : goal.returns
returns c =
    sym (fold_end sending zero_place c.args.messages c.loop-m.m-index c.loop-m.t (omega arith)) ∙ c.loop-m.invariant ∙ sending-all c.args.t.now c.args.messages
