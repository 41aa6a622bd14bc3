-- The words so far are numbers, and said
use Rattle.std.proofs.Common.{◌≡◌, length, take, true}
use Rattle.rules.specs.Words.{every}
use Rattle.text_numbers.specs.Lines.{words, is_number, saying}
use Rattle.text_numbers.proofs.parse.Given as goal

abbrev pub invariant-loop-i : goal.invariant-loop-i
invariant-loop-i l = record {
  said : l.said ≡ saying (take (length l.yielded) (words l.line));
  good : every is_number (take (length l.yielded) (words l.line)) ≡ true;
}
