use Rattle.std.proofs.Common.{◌≡◌, rules, if◌then◌else◌}
use borrow.Author.Tests.{tests}
use Rattle.rules.specs.Timestamps.{◌above◌}
use Rattle.epoch_settle.specs.Steps.{value_with, value_beside}
use Rattle.epoch_settle.proofs.Laws.{record_by}
use Rattle.epoch_settle.proofs.settled_record.Goals as goal
use Rattle.epoch_settle.proofs.settled_record.Goals.{then-lt, else-lt}

pub returns : goal.returns
returns c =
    let cs = c.args.copies.now in
    let l = c.latest-write.result in
    let w = c.last_write-w.result in
    let e = c.candidates-entries.ensures in
    let v : c.if-lt.result ≡ if l above w then value_with l c.candidates-entries.result.now else value_beside w cs =
    elim c.if-lt.branch [ then-lt b ↦ search (rules, tests) | else-lt b ↦ search (rules, tests) ] in
    rw c.waiting.ensures (record_by cs w l c.last_read.result c.if-lt.result c.last_write-w.ensures (rw e at c.latest-write.ensures) c.last_read.ensures (rw e at v))
