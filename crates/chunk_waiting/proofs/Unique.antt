-- Each public function's promise determines its answer
use Rattle.rules.proofs.Unique.{unique, Determined}
use Rattle.chunk_waiting.proofs.find.Reads as find_contract
use Rattle.chunk_waiting.proofs.head.Reads as head_contract
use Rattle.chunk_waiting.proofs.insert.Reads as insert_contract
use Rattle.chunk_waiting.proofs.mark.Reads as mark_contract
use Rattle.chunk_waiting.proofs.remove_head.Reads as remove_head_contract

find-unique : Determined find_contract.Learnt
find-unique κs a x y s u = unique

head-unique : Determined head_contract.Learnt
head-unique κs a x y s u = unique

insert-unique : Determined insert_contract.Learnt
insert-unique κs a x y s u = unique

remove_head-unique : Determined remove_head_contract.Learnt
remove_head-unique κs a x y s u = unique

mark-unique : Determined mark_contract.Learnt
mark-unique κs a x y s u = unique
