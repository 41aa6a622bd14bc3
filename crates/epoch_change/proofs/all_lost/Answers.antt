use Rattle.std.proofs.Common.{rules, arith, sym, ◌∙◌}
use mathlib.Core.Bool.{Bool, not, ◌||◌}
use Rattle.std.proofs.lemmas.Iterator.{YieldsList-from_slice, YieldsList-from_zip}
use Rattle.std.proofs.lemmas.Iterator.Search.{all_from_yields_List}
use borrow.Author.Tests.{tests}
use Rattle.rules.specs.declared.Chunk.{Chunk}
use Rattle.epoch_change.proofs.Laws.{all_lost_is}
use Rattle.epoch_change.proofs.all_lost.Goals as goal

pub returns : goal.returns
returns c =
    let a = c.args in
    all_from_yields_List (λ (p : Bool × Chunk). not p.0 || p.1.lost) c.all.new.self _ _ c.all.ensures.ran
    (YieldsList-from_zip (YieldsList-from_slice a.set.now.chunks (cc)) (YieldsList-from_slice a.chunks.now (cc))) (λ x b q k. search (rules, tests))
    ∙ sym (all_lost_is a.set.now a.chunks.now (omega arith) (omega arith))
