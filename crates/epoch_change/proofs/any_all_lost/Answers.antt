use Rattle.std.proofs.Common.{rules, arith, sym, ◌∙◌}
use Rattle.std.proofs.lemmas.Iterator.{YieldsList-from_slice, YieldsList-from_take}
use Rattle.std.proofs.lemmas.Iterator.Search.{any_from_yields_List}
use borrow.Author.Tests.{tests}
use Rattle.rules.specs.declared.Set.{Set}
use Rattle.rules.specs.Events.{all_lost}
use Rattle.rules.specs.Zero.{no_set}
use Rattle.epoch_change.proofs.Laws.{some_taken}
use Rattle.epoch_change.proofs.any_all_lost.Goals as goal

pub returns : goal.returns
returns c =
    let k = c.args.k.now in
    let chunks = c.args.chunks.now in
    any_from_yields_List (λ (s : Set). all_lost s chunks) _ _ _ c.any.ensures.ran
    (YieldsList-from_take k.blocks (YieldsList-from_slice k.sets (cc)) c.take.ensures.count) (λ x b q h. search (rules, tests))
    ∙ sym (some_taken (λ s. all_lost s chunks) no_set k.blocks 16 k.sets (omega arith))
