use Rattle.std.proofs.Common.{◌∙◌, ◌<◌, length, take, sym, arith}
use Rattle.rules.proofs.Loops.{taken_at}
use Rattle.rows.proofs.Laws.{kept-none, kept_more, kept_all}
use Rattle.rows.proofs.used_from.Goals as goal

pub loop-i-init : goal.loop-i-init
loop-i-init g c = kept-none g.row.N c.args.unused c.args.first (take c.args.count c.args.row)

pub loop-i-preserved : goal.loop-i-preserved
loop-i-preserved g c =
    let inside : c.loop-i.i < length (take c.args.count c.args.row) = omega arith in
    rw c.loop-i.invariant (kept_more g.row.N c.args.unused c.args.first (take c.args.count c.args.row) c.loop-i.i _ c.index-row-i.result
    c.loop-i.auto.i inside (sym (taken_at _ c.args.count c.args.row c.loop-i.i inside)))

pub returns : goal.returns
returns g c = c.loop-i.invariant ∙ kept_all g.row.N c.args.unused c.args.first (take c.args.count c.args.row) c.loop-i.i (omega arith)
