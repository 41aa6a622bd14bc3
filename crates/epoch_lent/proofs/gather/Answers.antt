use Rattle.std.proofs.Common.{◌≡◌, get_or, refl, arith}
use Rattle.rules.specs.Zero.{no_copy}
use Rattle.rules.proofs.Loops.{made_begin, made-end}
use Rattle.epoch_lent.proofs.Laws.{made-at}
use Rattle.epoch_lent.specs.Steps.{copy_at}
use Rattle.epoch_lent.proofs.gather.Goals as goal

pub loop-c-init : goal.loop-c-init
loop-c-init c = made_begin (copy_at c.args.t.now c.args.b) (λ j. get_or c.args.copies.now j no_copy) 8 no_copy c.args.copies.now (omega arith) (λ i h. refl)

pub loop-c-preserved : goal.loop-c-preserved
loop-c-preserved c = made-at _ _ 8 c.loop-c.c _ _ (omega arith) c.loop-c.invariant c.copy_in.ensures

pub returns : goal.returns
returns c =
    let end : c.loop-c.c ≡ 8 = omega arith in
    rw (c.loop-c.invariant, end) (made-end (copy_at c.args.t.now c.args.b) (λ j. get_or c.args.copies.now j no_copy) 8)
