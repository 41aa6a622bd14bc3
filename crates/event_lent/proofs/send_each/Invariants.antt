-- what is left to send, sent, is all sent
use Rattle.std.proofs.Common.{◌≡◌, drop}
use Rattle.rules.specs.Words.{fold}
use Rattle.event_lent.proofs.Laws.{sending}
use Rattle.event_lent.proofs.send_each.Given as goal

abbrev pub invariant-loop-m : goal.invariant-loop-m
invariant-loop-m l = fold sending l.t (drop l.m-index l.m-items) ≡ fold sending l.fn.t l.m-items
