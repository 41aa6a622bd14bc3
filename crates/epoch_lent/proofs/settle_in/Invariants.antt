-- The blocks before b are settled, and block b in the chunks before c
use Rattle.std.proofs.Common.{◌≡◌}
use Rattle.epoch_lent.proofs.Laws.{table_until}
use Rattle.epoch_lent.proofs.settle_in.Given as goal

abbrev pub invariant-loop-b : goal.invariant-loop-b
invariant-loop-b l = l.t ≡ table_until l.fn.t l.b 0

abbrev pub invariant-loop-c : goal.invariant-loop-c
invariant-loop-c l = l.t ≡ table_until l.fn.t l.b l.c
