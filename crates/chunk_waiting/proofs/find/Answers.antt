use Rattle.std.proofs.Common.{◌∙◌, sym, arith}
use Rattle.rules.specs.Waiting.{in_order, first_with}
use Rattle.rules.specs.Zero.{zero_entry}
use Rattle.rules.proofs.Loops.{place_end}
use Rattle.chunk_waiting.proofs.Laws.{stamped, search_on, search_ends}
use Rattle.chunk_waiting.proofs.find.Goals as goal

pub loop-i-preserved : goal.loop-i-preserved
loop-i-preserved c =
    omega (arith, search_on (stamped c.args.t) c.args.w c.loop-i.i (omega arith) (sym c.eq.ensures ∙ c.if-eq.false))

pub returns-then-i-n : goal.returns-then-i-n
unfolding first_with
returns-then-i-n c =
    omega (arith, place_end (stamped c.args.t) zero_entry (in_order c.args.w) c.loop-i.i (omega arith))

pub returns-then-eq : goal.returns-then-eq
unfolding first_with
returns-then-eq c =
    omega (arith, search_ends (stamped c.args.t) c.args.w c.loop-i.i (omega arith) (sym c.eq.ensures ∙ c.if-eq.true))
