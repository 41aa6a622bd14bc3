-- Each public function's promise determines its answer
use Rattle.rules.proofs.Unique.{unique, Determined}
use Rattle.network_requests.proofs.close.Reads as close_contract
use Rattle.network_requests.proofs.open.Reads as open_contract

open-unique : Determined open_contract.Learnt
open-unique κs a x y s u = unique

close-unique : Determined close_contract.Learnt
close-unique κs a x y s u = unique
