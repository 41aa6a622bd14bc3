-- Each public function's promise determines its answer
use Rattle.rules.proofs.Unique.{unique, Determined}
use Rattle.text_numbers.proofs.parse.Reads as parse_contract

parse-unique : Determined parse_contract.Learnt
parse-unique κs a x y s u = unique
