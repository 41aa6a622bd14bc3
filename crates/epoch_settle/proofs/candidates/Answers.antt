use Rattle.std.proofs.Common.{rules, ap, ◌∙◌}
use Rattle.std.specs.Prelude.{Option}
use Rattle.std.specs.Option.{unwrap_or}
use Rattle.std.proofs.lemmas.Iterator.{YieldsList-from_slice}
use Rattle.std.proofs.lemmas.Iterator.Search.{find_from_yields_List}
use borrow.Author.Tests.{tests}
use Rattle.rules.specs.declared.Copy.{Copy}
use Rattle.rules.specs.Settlement.{not_lost, waiting}
use Rattle.rules.specs.Zero.{no_copy}
use Rattle.epoch_settle.proofs.candidates.Goals as goal

pub returns-in-Some : goal.returns-in-Some
returns-in-Some c =
    let h = find_from_yields_List not_lost _ _ c.find.result c.find.ensures.ran (YieldsList-from_slice c.args.copies.now (cc)) (λ x b q k. search (rules, tests)) in
    c.in_order.ensures ∙ ap (λ (o : Option Copy). waiting (unwrap_or o no_copy)) (rw c.in-Some.is at h)

pub returns-in-None : goal.returns-in-None
returns-in-None c =
    let h = find_from_yields_List not_lost _ _ c.find.result c.find.ensures.ran (YieldsList-from_slice c.args.copies.now (cc)) (λ x b q k. search (rules, tests)) in
    ap (λ (o : Option Copy). waiting (unwrap_or o no_copy)) (rw c.in-None.is at h)
