use Rattle.std.proofs.Common.{◌≡◌, arith, ap, ◌∙◌}
use Rattle.epoch_settle.proofs.Laws.{settled_until, settled-begin, settled-next, settled_is}
use Rattle.epoch_settle.proofs.settle.Goals as goal

pub loop-c-init : goal.loop-c-init
loop-c-init c = settled-begin c.args.copies (omega arith)

pub loop-c-preserved : goal.loop-c-preserved
loop-c-preserved c =
    settled-next c.args.copies c.loop-c.c-items c.loop-c.c-index _ _ _ (omega arith) c.loop-c.invariant c.settled_record-settled.ensures c.settle_copy.ensures

pub returns : goal.returns
returns c =
    let cs = c.args.copies in
    let end : c.loop-c.c-index ≡ 8 = omega arith in
    c.loop-c.invariant ∙ ap (settled_until cs) end ∙ settled_is cs (omega arith)
