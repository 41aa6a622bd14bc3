use Rattle.std.proofs.Common.{refl}
use Rattle.rules.proofs.Loops.{marked-only}
use Rattle.host_attempts.proofs.only.Goals as goal

pub returns : goal.returns
returns c = rw (c.put.ensures, c.set-out.ensures, ← marked-only 8 c.args.chunk) refl
