-- Each public function's promise determines its answer
use Rattle.rules.proofs.Unique.{unique, Determined}
use Rattle.chunk_alone.proofs.fail.Reads as fail_contract
use Rattle.chunk_alone.proofs.give_lease.Reads as give_lease_contract
use Rattle.chunk_alone.proofs.recover.Reads as recover_contract
use Rattle.chunk_alone.proofs.take_lease.Reads as take_lease_contract

fail-unique : Determined fail_contract.Learnt
fail-unique κs a x y s u = unique

recover-unique : Determined recover_contract.Learnt
recover-unique κs a x y s u = unique

take_lease-unique : Determined take_lease_contract.Learnt
take_lease-unique κs a x y s u = unique

give_lease-unique : Determined give_lease_contract.Learnt
give_lease-unique κs a x y s u = unique
