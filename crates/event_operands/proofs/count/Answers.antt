use Rattle.std.proofs.Common.{rules, ◌∙◌, ◌≡◌}
use Rattle.std.proofs.iter.runs.Made.{chains}
use Rattle.std.specs.Prelude.{count_by}
use Rattle.rules.specs.Operands.{is_own}
use Rattle.event_operands.proofs.Laws.{count-those}
use Rattle.event_operands.proofs.count.Goals as goal

pub returns : goal.returns
returns c =
    let all : c.count.result ≡ count_by is_own c.iter.result.rest.now = search (rules, chains) in
    all ∙ rw (c.iter.ensures.rest, c.operands_of-a.ensures) (count-those is_own _)
