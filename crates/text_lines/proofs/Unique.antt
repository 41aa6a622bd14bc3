-- Each public function's promise determines its answer
use Rattle.rules.proofs.Unique.{unique, Determined}
use Rattle.text_lines.proofs.answer_text.Reads as answer_text_contract
use Rattle.text_lines.proofs.cut_line.Reads as cut_line_contract
use Rattle.text_lines.proofs.no_text.Reads as no_text_contract
use Rattle.text_lines.proofs.numbers_of.Reads as numbers_of_contract
use Rattle.text_lines.proofs.parse_text.Reads as parse_text_contract

no_text-unique : Determined no_text_contract.Learnt
no_text-unique κs a x y s u = unique

cut_line-unique : Determined cut_line_contract.Learnt
cut_line-unique κs a x y s u = unique

parse_text-unique : Determined parse_text_contract.Learnt
parse_text-unique κs a x y s u = unique

numbers_of-unique : Determined numbers_of_contract.Learnt
numbers_of-unique κs a x y s u = unique

answer_text-unique : Determined answer_text_contract.Learnt
answer_text-unique κs a x y s u = unique
