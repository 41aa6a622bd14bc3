use Rattle.std.proofs.Common.{◌≡◌, ◌∙◌, length, refl, ap, arith}
use Rattle.rules.specs.declared.Table.{Table}
use Rattle.chunk_fault.specs.Steps.{with_emptied}
use Rattle.chunk_fault.proofs.Laws.{block_is, table-begins, table-next, table-ends}
use Rattle.chunk_fault.proofs.empty_in.Goals as goal

pub loop-b-init : goal.loop-b-init
loop-b-init c =
    let len : length c.args.t.now.records ≡ 128 = omega arith in
    (len, omega arith, table-begins c.args.t.now len c.args.chunk)

pub loop-b-preserved : goal.loop-b-preserved
loop-b-preserved c =
    let inv = c.loop-b.invariant in
    let chunk = c.args.chunk in (
      inv.0,
      omega arith,
      block_is c.loop-b.t _ chunk c.loop-b.b c.record_number-i.result c.record_in-held.result _ c.record_number-i.ensures c.record_in-held.ensures (rw c.waiting.ensures refl) c.put_record.ensures
          ∙ ap (λ (t : Table). with_emptied chunk t c.loop-b.b) inv.2 ∙ table-next c.args.t.now inv.0 chunk c.loop-b.b (omega arith),
    )

pub returns : goal.returns
returns c =
    let inv = c.loop-b.invariant in
    inv.2 ∙ table-ends c.args.t.now inv.0 c.args.chunk c.loop-b.b inv.1 (omega arith)
