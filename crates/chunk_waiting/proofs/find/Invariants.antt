-- What it looks for is i further than in what is left
use Rattle.std.proofs.Common.{◌≡◌, ◌+◌, ◌-◌, ◌≤◌, drop}
use Rattle.rules.specs.Waiting.{in_order}
use Rattle.rules.specs.Words.{place}
use Rattle.chunk_waiting.proofs.Laws.{stamped}
use Rattle.chunk_waiting.proofs.find.Given as goal

abbrev pub invariant-loop-i : goal.invariant-loop-i
invariant-loop-i l = (l.i ≤ l.n) × (place (stamped l.t) (in_order l.w) ≡ l.i + place (stamped l.t) (drop l.i (in_order l.w)))

abbrev pub decreases-loop-i : goal.decreases-loop-i
decreases-loop-i l = l.n - l.i
