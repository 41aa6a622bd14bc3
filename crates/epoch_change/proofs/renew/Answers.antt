use Rattle.std.proofs.Common.{◌≡◌, rules, arith, length, take, length-take}
use Rattle.epoch_change.proofs.Laws.{renewed_is}
use Rattle.epoch_change.proofs.renew.Goals as goal

pub returns : goal.returns
returns c =
    let a = c.args in
    let n : length (take c.min-used.result a.chunks) ≡ c.min-used.result = omega (arith, length-take c.min-used.result a.chunks, c.min-used.ensures) in
    rw (c.fill.ensures.after (λ y h. search rules), n) (renewed_is a.k a.next c.min-used.result a.chunks (omega arith) c.min-used.ensures)
