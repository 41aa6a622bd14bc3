use Rattle.std.proofs.Common.{rules, arith, sym, ◌∙◌}
use Rattle.std.proofs.lemmas.Iterator.{YieldsList-from_slice}
use Rattle.std.proofs.lemmas.Iterator.Search.{any_from_yields_List}
use borrow.Author.Tests.{tests}
use Rattle.rules.specs.declared.Chunk.{Chunk}
use Rattle.rules.specs.Kinds.{is_failed}
use Rattle.rules.specs.Zero.{no_chunk}
use Rattle.table_sets.proofs.Chains.{some_listed}
use Rattle.epoch_change.proofs.any_failed.Goals as goal

pub returns : goal.returns
returns c =
    let chunks = c.args.chunks.now in
    any_from_yields_List (λ (x : Chunk). is_failed x.state) _ _ _ c.any.ensures.ran (YieldsList-from_slice chunks (cc)) (λ x b q k. search (rules, tests)) ∙ sym (some_listed (λ (x : Chunk). is_failed x.state) no_chunk 8 chunks (omega arith))
