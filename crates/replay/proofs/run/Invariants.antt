-- What the events so far leave, and the checksum of their answers
use Rattle.std.proofs.Common.{◌≡◌}
use Rattle.replay.specs.Replay.{sum_after, table_after}
use Rattle.replay.proofs.run.Given as goal

abbrev pub invariant-loop-kind : goal.invariant-loop-kind
invariant-loop-kind g l =
    goal.F-IsAlwaysCallable g l.act × (l.table ≡ table_after l.initial.table l.fn.events l.kind-index) × (l.sum ≡ sum_after l.initial.table l.fn.events l.kind-index)
