use Rattle.std.proofs.Common.{rules, cond, ltb}
use Rattle.table_creation.proofs.Laws.{each_made}
use Rattle.table_creation.proofs.used_of.Goals as goal

pub returns : goal.returns
returns g c = each_made _ (λ i. cond (ltb i c.args.count) c.args.used c.args.unused) _ (λ i y q k. search rules) _ c.args.unused _ c.from_fn.ensures.items
