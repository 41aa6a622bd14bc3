use Rattle.std.proofs.Common.{rules, ◌≡◌, ◌∙◌, sym, false, arith}
use Rattle.std.specs.List.{count_by}
use Rattle.rules.specs.Network.{how_many}
use Rattle.table_sets.proofs.Chains.{count_listed}
use Rattle.table_sets.proofs.how_many.Goals as goal

pub returns : goal.returns
unfolding how_many
returns c =
    let counted : c.count.result ≡ count_by (λ b. b) c.args.to.chunks = search rules in
    counted ∙ sym (count_listed (λ b. b) false 8 c.args.to.chunks (omega arith))
