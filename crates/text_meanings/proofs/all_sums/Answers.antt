use Rattle.std.proofs.Common.{◌∙◌, sym, rules}
use borrow.Author.Tests.{tests}
use Rattle.std.proofs.lemmas.Iterator.{YieldsList-from_slice}
use Rattle.std.proofs.lemmas.Iterator.Search.{all_from_yields_List}
use Rattle.text_meanings.specs.Meanings.{is_sum}
use Rattle.table_sets.proofs.Chains.{every-all}
use Rattle.text_meanings.proofs.all_sums.Goals as goal

pub returns : goal.returns
returns c =
    all_from_yields_List is_sum _ _ _ c.all.ensures.ran (YieldsList-from_slice c.args.ns.now c.iter.ensures.rest) (λ x b q k. search (rules, tests))
    ∙ sym (every-all is_sum c.args.ns.now)
