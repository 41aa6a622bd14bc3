-- What is left of the word goes on from the value
use Rattle.std.proofs.Common.{◌≡◌}
use Rattle.std.proofs.Math.ListN.{drop}
use Rattle.text_numbers.proofs.Laws.{read_on}
use Rattle.text_numbers.proofs.number.Given as goal

abbrev pub invariant-loop-byte : goal.invariant-loop-byte
invariant-loop-byte l = read_on l.value (drop l.byte-index l.word) ≡ read_on 0 l.word
