-- Each public function's promise determines its answer
use Rattle.rules.proofs.Unique.{unique, Determined}
use Rattle.epoch_change.proofs.change_code.Reads as change_code_contract
use Rattle.epoch_change.proofs.renew.Reads as renew_contract

change_code-unique : Determined change_code_contract.Learnt
change_code-unique κs a x y s u = unique

renew-unique : Determined renew_contract.Learnt
renew-unique κs a x y s u = unique
