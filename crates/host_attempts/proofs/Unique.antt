-- Each public function's promise determines its answer
use Rattle.rules.proofs.Unique.{unique, Determined}
use Rattle.host_attempts.proofs.finish.Reads as finish_contract
use Rattle.host_attempts.proofs.start.Reads as start_contract

start-unique : Determined start_contract.Learnt
start-unique κs a x y s u = unique

finish-unique : Determined finish_contract.Learnt
finish-unique κs a x y s u = unique
