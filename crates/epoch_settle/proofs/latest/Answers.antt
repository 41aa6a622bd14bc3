use Rattle.std.proofs.Common.{rules, ◌∙◌}
use Rattle.std.proofs.lemmas.Iterator.Adapters.{YieldsList-from_rev_slice}
use Rattle.std.proofs.lemmas.Iterator.Consumers.{fold_from_yields_List}
use Rattle.epoch_settle.specs.Steps.{with_entry}
use Rattle.epoch_settle.proofs.Laws.{latest_back}
use Rattle.epoch_settle.proofs.latest.Goals as goal

pub returns : goal.returns
returns c =
    let cs = c.args.copies.now in
    let l = c.args.entries.now in
    fold_from_yields_List _ (with_entry cs) c.args.w c.fold.result c.fold.ensures.ran (YieldsList-from_rev_slice l (cc)) (λ a x b q k. search rules) ∙ latest_back cs c.args.w l
