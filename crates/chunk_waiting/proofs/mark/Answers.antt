use Rattle.std.proofs.Common.{refl}
use Rattle.chunk_waiting.proofs.Laws.{marked-here, marked-none}
use Rattle.chunk_waiting.proofs.mark.Goals as goal

pub returns-then-i-out : goal.returns-then-i-out
returns-then-i-out c =
    let t = c.tidy-out.ensures in
    marked-here _ _ t.0 t.1 _ _ _ c.find-i.ensures c.if-i-out.true _ (rw c.decide.ensures refl)

pub returns-else-i-out : goal.returns-else-i-out
returns-else-i-out c =
    let t = c.tidy-out.ensures in
    marked-none _ _ t.0 t.1 _ _ _ c.find-i.ensures c.if-i-out.false
