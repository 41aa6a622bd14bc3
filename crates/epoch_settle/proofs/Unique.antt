-- Each public function's promise determines its answer
use Rattle.rules.proofs.Unique.{unique, Determined}
use Rattle.epoch_settle.proofs.settle.Reads as settle_contract

settle-unique : Determined settle_contract.Learnt
settle-unique κs a x y s u = unique
