-- Each public function's promise determines its answer
use Rattle.rules.proofs.Unique.{unique, Determined}
use Rattle.chunk_head.proofs.overdue.Reads as overdue_contract
use Rattle.chunk_head.proofs.run.Reads as run_contract

run-unique : Determined run_contract.Learnt
run-unique κs a x y s u = unique

overdue-unique : Determined overdue_contract.Learnt
overdue-unique κs a x y s u = unique
