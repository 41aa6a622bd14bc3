use Rattle.std.proofs.Common.{◌∙◌, sym}
use Rattle.std.proofs.lemmas.Result.{err_from_is_err_and}
use Rattle.chunk_fault.proofs.Laws.{stays}
use Rattle.chunk_fault.proofs.fail_in.Goals as goal

pub returns-in_err-failed : goal.returns-in_err-failed
returns-in_err-failed c =
    let p = err_from_is_err_and c.from_residual.result c.from_residual.ensures.1 in
    rw (p.1, p.2) (stays c.args.t.now c.args.chunk c.chunk_in.result _ c.chunk_in.ensures (sym c.fail.ensures ∙ c.in_err-failed.was))
