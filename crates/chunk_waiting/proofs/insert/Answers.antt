use Rattle.chunk_waiting.proofs.Laws.{put_in, put-beyond}
use Rattle.chunk_waiting.proofs.insert.Goals as goal

pub returns-then-p-lt-WAITING : goal.returns-then-p-lt-WAITING
returns-then-p-lt-WAITING c =
    let t = c.tidy-out.ensures in
    put_in _ _ t.0 t.1 _ _ c.behind-p.ensures c.if-p-lt-WAITING.true _ c.copy_within.ensures.after

pub returns-else-p-lt-WAITING : goal.returns-else-p-lt-WAITING
returns-else-p-lt-WAITING c =
    let t = c.tidy-out.ensures in
    put-beyond _ _ t.0 t.1 _ _ c.behind-p.ensures c.if-p-lt-WAITING.false
