use Rattle.std.proofs.Common.{rules, refl}
use Rattle.std.proofs.lemmas.Iterator.{YieldsList-from_slice}
use Rattle.std.proofs.lemmas.Iterator.Search.{find_from_yields_List}
use borrow.Author.Tests.{tests}
use Rattle.rules.specs.declared.Entry.{Entry}
use Rattle.rules.specs.Kinds.{value_of}
use Rattle.rules.specs.Settlement.{write_with}
use Rattle.rules.specs.Zero.{zero_entry}
use Rattle.epoch_settle.proofs.Arrays.{found}
use Rattle.epoch_settle.proofs.value_with.Goals as goal

pub returns : goal.returns
returns c =
    let a = c.args in
    let h = find_from_yields_List (write_with a.t) _ _ c.find.result c.find.ensures.ran (YieldsList-from_slice a.entries.now (cc)) (λ x b q k. search (rules, tests)) in
    found (write_with a.t) (λ (e : Entry). value_of e.kind) zero_entry a.entries.now c.find.result h c.map_or.result 0 c.map_or.ensures refl (λ x q. search rules)
