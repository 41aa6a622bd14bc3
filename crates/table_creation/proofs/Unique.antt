-- Each public function's promise determines its answer
use Rattle.rules.proofs.Unique.{unique, Determined}
use Rattle.table_creation.proofs.create.Reads as create_contract
use Rattle.table_creation.proofs.no_store.Reads as no_store_contract

create-unique : Determined create_contract.Learnt
create-unique κs a x y s u = unique

no_store-unique : Determined no_store_contract.Learnt
no_store-unique κs a x y s u = unique
