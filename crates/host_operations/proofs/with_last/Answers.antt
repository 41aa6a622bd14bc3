use Rattle.std.proofs.Common.{take, arith}
use Rattle.host_operations.proofs.Laws.{one_more, no_place}
use Rattle.host_operations.proofs.with_last.Goals as goal

pub returns : goal.returns
returns c =
    let l = take c.args.q.count c.args.q.operations in
    let full = no_place l c.args.o in
    let made = c.used_from-operations.ensures in
    let n = c.used-n.ensures.0 in
    one_more l c.args.o _ _ (omega arith) (grind arith)
