-- Each public function's promise determines its answer
use Rattle.rules.proofs.Unique.{unique, Determined}
use Rattle.table_zero.proofs.attempt.Reads as attempt_contract
use Rattle.table_zero.proofs.chunk.Reads as chunk_contract
use Rattle.table_zero.proofs.creation.Reads as creation_contract
use Rattle.table_zero.proofs.creation_of.Reads as creation_of_contract
use Rattle.table_zero.proofs.entry.Reads as entry_contract
use Rattle.table_zero.proofs.host.Reads as host_contract
use Rattle.table_zero.proofs.operation.Reads as operation_contract
use Rattle.table_zero.proofs.operation_of.Reads as operation_of_contract
use Rattle.table_zero.proofs.record.Reads as record_contract
use Rattle.table_zero.proofs.set.Reads as set_contract
use Rattle.table_zero.proofs.waiting.Reads as waiting_contract

set-unique : Determined set_contract.Learnt
set-unique κs a x y s u = unique

creation_of-unique : Determined creation_of_contract.Learnt
creation_of-unique κs a x y s u = unique

creation-unique : Determined creation_contract.Learnt
creation-unique κs a x y s u = unique

entry-unique : Determined entry_contract.Learnt
entry-unique κs a x y s u = unique

waiting-unique : Determined waiting_contract.Learnt
waiting-unique κs a x y s u = unique

record-unique : Determined record_contract.Learnt
record-unique κs a x y s u = unique

chunk-unique : Determined chunk_contract.Learnt
chunk-unique κs a x y s u = unique

operation_of-unique : Determined operation_of_contract.Learnt
operation_of-unique κs a x y s u = unique

operation-unique : Determined operation_contract.Learnt
operation-unique κs a x y s u = unique

attempt-unique : Determined attempt_contract.Learnt
attempt-unique κs a x y s u = unique

host-unique : Determined host_contract.Learnt
host-unique κs a x y s u = unique
