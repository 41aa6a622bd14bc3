-- Each public function's promise determines its answer
use Rattle.rules.proofs.Unique.{unique, Determined}
use Rattle.table_sets.proofs.among.Reads as among_contract
use Rattle.table_sets.proofs.how_many.Reads as how_many_contract
use Rattle.table_sets.proofs.is_empty.Reads as is_empty_contract

among-unique : Determined among_contract.Learnt
among-unique κs a x y s u = unique

is_empty-unique : Determined is_empty_contract.Learnt
is_empty-unique κs a x y s u = unique

how_many-unique : Determined how_many_contract.Learnt
how_many-unique κs a x y s u = unique
