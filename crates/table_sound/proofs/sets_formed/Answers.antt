use Rattle.std.proofs.Common.{◌≡◌, ◌∙◌, ltb, cond, not, ◌&&◌, refl, arith, rules}
use Rattle.rules.specs.Creation.{is_set_of, of_store}
use Rattle.rules.specs.Zero.{is_empty, no_set}
use Rattle.table_sound.specs.Parts.{counted}
use Rattle.table_sound.proofs.sets_formed.Goals as goal

pub returns : goal.returns
returns c =
    let n = c.from-n.result in
    c.every_place.ensures (is_set_of c.args.k.now) 16 (omega arith) (λ b s ok is said.
    let e : ok ≡ cond (ltb b n.blocks) (not (is_empty s.now) && of_store (counted n) s.now) (is_empty s.now) = search rules in
    e ∙ rw (c.from-n.ensures, is no_set) refl)
