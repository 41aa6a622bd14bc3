use Rattle.std.proofs.Common.{arith, rules}
use Rattle.table_sets.proofs.Chains.{true_listed}
use Rattle.table_sound.proofs.is_zero_chunk.Goals as goal

pub returns : goal.returns
returns c = rw (c.contains.ensures.value, true_listed 16 c.args.c.now.reconcile (omega arith)) (search rules)
