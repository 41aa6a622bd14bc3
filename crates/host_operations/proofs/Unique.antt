-- Each public function's promise determines its answer
use Rattle.rules.proofs.Unique.{unique, Determined}
use Rattle.host_operations.proofs.front.Reads as front_contract
use Rattle.host_operations.proofs.with_last.Reads as with_last_contract
use Rattle.host_operations.proofs.without_front.Reads as without_front_contract

front-unique : Determined front_contract.Learnt
front-unique κs a x y s u = unique

with_last-unique : Determined with_last_contract.Learnt
with_last-unique κs a x y s u = unique

without_front-unique : Determined without_front_contract.Learnt
without_front-unique κs a x y s u = unique
