use Rattle.std.proofs.Common.{List, ℕ, ◌≡◌, ◌<◌, ◌/◌, length, ap, ◌∙◌, refl, arith, of_calls}
use Rattle.std.proofs.lemmas.Fn.{Called-on}
use Rattle.replay.specs.Replay.{event_at, sum_after, table_after}
use Rattle.replay.proofs.Laws.{four, event_is, table_next, sum_next}
use Rattle.replay.proofs.run.Goals as goal

pub loop-kind-init : goal.loop-kind-init
unfolding table_after sum_after
loop-kind-init g c = (search of_calls, refl, refl)

pub loop-kind-preserved : goal.loop-kind-preserved
loop-kind-preserved g c =
    let l = c.args.events.now in
    let i = c.loop-kind.kind-index in
    let below : i < length l / 4 = omega (arith, c.as_chunks.ensures.front_len) in
    let is : four c.as_chunks.result.0.now i ≡ event_at l i = ap (λ (k : List (List ℕ)). four k i) c.as_chunks.ensures.front ∙ event_is (length l / 4) l i below in
    let does = c.requires.steps _ _ _ _ _ _ (Called-on g.F.FnMut c.act.ensures refl) in (
      search of_calls,
      table_next c.args.table l i _ is c.loop-kind.table _ _ c.loop-kind.invariant.1 does,
      c.mix_reply-sum.ensures ∙ sum_next c.args.table l i _ is c.loop-kind.table _ _ c.loop-kind.invariant.1 does c.loop-kind.sum c.loop-kind.invariant.2,
    )
