-- What is left of the bytes goes on from the text
use Rattle.std.proofs.Common.{◌≡◌, drop}
use Rattle.rules.specs.Words.{fold}
use Rattle.text_lines.specs.Texts.{followed}
use Rattle.text_lines.proofs.gather.Given as goal

abbrev pub invariant-loop-byte : goal.invariant-loop-byte
invariant-loop-byte l = fold followed l.text (drop l.byte-index l.bytes) ≡ fold followed l.initial.text l.bytes
