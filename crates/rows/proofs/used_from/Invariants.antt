-- What the places have is what is kept of the first i in use
use Rattle.std.proofs.Common.{◌≡◌, take}
use Rattle.rows.proofs.Laws.{kept}
use Rattle.rows.proofs.used_from.Given as goal

abbrev pub invariant-loop-i : goal.invariant-loop-i
invariant-loop-i g l = l.out ≡ kept g.row.N l.fn.unused l.first (take l.count l.row) l.i
