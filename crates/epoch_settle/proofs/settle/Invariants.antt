-- The copies before it are settled
use Rattle.std.proofs.Common.{◌≡◌}
use Rattle.epoch_settle.proofs.Laws.{settled_until}
use Rattle.epoch_settle.proofs.settle.Given as goal

abbrev pub invariant-loop-c : goal.invariant-loop-c
invariant-loop-c l = l.c-items ≡ settled_until l.fn.copies l.c-index
