-- Each public function's promise determines its answer
use Rattle.rules.proofs.Unique.{unique, Determined}
use Rattle.table_kinds.proofs.is_read.Reads as is_read_contract
use Rattle.table_kinds.proofs.is_aborted.Reads as is_aborted_contract
use Rattle.table_kinds.proofs.value_of.Reads as value_of_contract
use Rattle.table_kinds.proofs.is_normal.Reads as is_normal_contract
use Rattle.table_kinds.proofs.is_reading.Reads as is_reading_contract

is_read-unique : Determined is_read_contract.Learnt
is_read-unique κs a x y s u = unique

is_aborted-unique : Determined is_aborted_contract.Learnt
is_aborted-unique κs a x y s u = unique

value_of-unique : Determined value_of_contract.Learnt
value_of-unique κs a x y s u = unique

is_normal-unique : Determined is_normal_contract.Learnt
is_normal-unique κs a x y s u = unique

is_reading-unique : Determined is_reading_contract.Learnt
is_reading-unique κs a x y s u = unique
