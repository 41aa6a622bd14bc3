-- Each public function's promise determines its answer
use Rattle.rules.proofs.Unique.{unique, Determined}
use Rattle.host_replies.proofs.at_host.Reads as at_host_contract

at_host-unique : Determined at_host_contract.Learnt
at_host-unique κs a x y s u = unique
