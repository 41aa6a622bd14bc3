use Rattle.std.proofs.Common.{rules, ◌∙◌, tests}
use Rattle.std.proofs.lemmas.Iterator.{YieldsList-from_slice}
use Rattle.std.proofs.lemmas.Iterator.Search.{all_from_yields_List}
use Rattle.rules.specs.Operands.{in_range}
use Rattle.event_operands.specs.Address.{operands_of}
use Rattle.event_operands.proofs.Laws.{all-in-range}
use Rattle.event_operands.proofs.in_range.Goals as goal

pub returns : goal.returns
returns c =
    all_from_yields_List (λ x. in_range c.args.k x.0 x.1) _ _ _ c.all.ensures.ran (YieldsList-from_slice (operands_of c.args.e) cc) (λ x b q k. search (rules, tests))
    ∙ all-in-range c.args.k c.args.e
