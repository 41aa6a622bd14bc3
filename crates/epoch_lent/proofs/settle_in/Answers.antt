use Rattle.std.proofs.Common.{◌≡◌, arith, ap, ◌∙◌}
use Rattle.rules.specs.declared.Table.{Table}
use Rattle.rules.specs.Events.{copies_in}
use Rattle.rules.specs.Settlement.{settled}
use Rattle.epoch_lent.specs.Steps.{copies_at}
use Rattle.epoch_lent.proofs.Laws.{table_begins, record_stored, block_ends, table_ends, copies_same}
use Rattle.epoch_lent.proofs.settle_in.Goals as goal

pub loop-b-init : goal.loop-b-init
loop-b-init c = table_begins c.args.t.now (omega arith)

pub loop-c-preserved : goal.loop-c-preserved
loop-c-preserved c =
    let t = c.args.t.now in
    let b = c.loop-b.b in
    let is : c.settle-settled.result ≡ settled (copies_in t.creation t.chunks t.records b) =
    c.settle-settled.ensures ∙ ap settled (c.gather.ensures ∙ ap (λ (x : Table). copies_at x b) c.loop-b.invariant ∙ copies_same t b (omega arith)) in
    record_stored t b c.loop-c.c (omega arith) (omega arith) _ _ _ _ c.loop-c.invariant c.record_number-i.ensures is c.put_record.ensures

pub loop-b-preserved : goal.loop-b-preserved
loop-b-preserved c = c.loop-c.invariant ∙ block_ends c.args.t.now c.loop-b.b c.loop-c.c (omega arith)

pub returns : goal.returns
returns c = c.loop-b.invariant ∙ table_ends c.args.t.now c.loop-b.b (omega arith)
