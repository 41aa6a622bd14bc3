-- The chunks before c have been looked at
use Rattle.std.proofs.Common.{◌≡◌, get_or}
use Rattle.rules.specs.Zero.{no_copy}
use Rattle.rules.proofs.Loops.{made}
use Rattle.epoch_lent.specs.Steps.{copy_at}
use Rattle.epoch_lent.proofs.gather.Given as goal

abbrev pub invariant-loop-c : goal.invariant-loop-c
invariant-loop-c l = l.copies ≡ made (copy_at l.fn.t l.fn.b) (λ j. get_or l.fn.copies j no_copy) 8 l.c
