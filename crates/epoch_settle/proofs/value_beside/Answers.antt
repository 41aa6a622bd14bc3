use Rattle.std.proofs.Common.{rules, refl, ◌&&◌}
use Rattle.std.proofs.lemmas.Iterator.{YieldsList-from_slice}
use Rattle.std.proofs.lemmas.Iterator.Search.{find_from_yields_List}
use borrow.Author.Tests.{tests}
use Rattle.rules.specs.declared.Copy.{Copy}
use Rattle.rules.specs.Settlement.{in_set, last_write}
use Rattle.rules.specs.Timestamps.{◌is◌}
use Rattle.rules.specs.Zero.{no_copy}
use Rattle.epoch_settle.proofs.Arrays.{found}
use Rattle.epoch_settle.proofs.value_beside.Goals as goal

pub returns : goal.returns
returns c =
    let a = c.args in
    let h = find_from_yields_List (λ (x : Copy). in_set x && last_write x is a.w) _ _ c.find.result c.find.ensures.ran (YieldsList-from_slice a.copies.now (cc)) (λ x b q k. search (rules, tests)) in
    found (λ (x : Copy). in_set x && last_write x is a.w) (λ (e : Copy). e.held.value) no_copy a.copies.now c.find.result h c.map_or.result 0 c.map_or.ensures refl (λ x q. search rules)
