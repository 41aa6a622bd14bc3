use Rattle.std.proofs.Common.{◌∙◌, sym, rules}
use borrow.Author.Tests.{tests}
use Rattle.std.proofs.lemmas.Iterator.{YieldsList-from_slice}
use Rattle.std.proofs.lemmas.Iterator.Search.{position_from_yields_List}
use Rattle.text_lines.specs.Texts.{is_newline}
use Rattle.text_lines.proofs.Texts.{rest_is, cut_some, cut_none}
use Rattle.text_lines.proofs.cut_line.Goals as goal

pub returns-in-Some : goal.returns-in-Some
returns-in-Some c =
    let a = c.args in
    cut_some a.block.now a.at a.text c.gather.new.text _ (rest_is a.block.now a.at c.min.result c.min.ensures) c.in-Some.n
    (sym c.in-Some.is ∙ position_from_yields_List is_newline _ _ _ c.position.ensures.ran (YieldsList-from_slice _ c.iter.ensures.rest) (λ x b q k. search (rules, tests)))
    c.gather.ensures

pub returns-in-None : goal.returns-in-None
returns-in-None c =
    let a = c.args in
    cut_none a.block.now a.at a.text c.gather-in-None.new.text _ (rest_is a.block.now a.at c.min.result c.min.ensures)
    (sym c.in-None.is ∙ position_from_yields_List is_newline _ _ _ c.position.ensures.ran (YieldsList-from_slice _ c.iter.ensures.rest) (λ x b q k. search (rules, tests)))
    c.gather-in-None.ensures
