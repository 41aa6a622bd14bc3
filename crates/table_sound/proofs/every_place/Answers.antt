use Rattle.std.proofs.Common.{arith, sym}
use Rattle.std.proofs.lemmas.List.{get_or_read}
use Rattle.rules.proofs.Loops.{every_begin}
use Rattle.table_sound.proofs.Laws.{every_more}
use Rattle.table_sound.proofs.every_place.Goals as goal

pub loop-i-init : goal.loop-i-init
loop-i-init g c = λ p computes. sym (every_begin p)

pub loop-i-preserved : goal.loop-i-preserved
loop-i-preserved g c =
    λ p computes.
    every_more p c.loop-i.i _ _ (c.loop-i.invariant p computes) (computes c.loop-i.i _ _ (get_or_read c.args.places.now c.loop-i.i c.index-places-i.result (omega arith) c.index-places-i.is) c.formed-ok.ensures)
