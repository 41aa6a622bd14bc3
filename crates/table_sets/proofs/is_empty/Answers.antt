use Rattle.std.proofs.Common.{◌∙◌, sym, ap, arith}
use mathlib.Core.Bool.{not}
use Rattle.table_sets.proofs.Chains.{true_listed}
use Rattle.table_sets.proofs.is_empty.Goals as goal

pub returns : goal.returns
returns c = ap not (c.contains.ensures.value ∙ sym (true_listed 8 c.args.s.chunks (omega arith)))
