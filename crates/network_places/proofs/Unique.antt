-- Each public function's promise determines its answer
use Rattle.rules.proofs.Unique.{unique, Determined}
use Rattle.network_places.proofs.place_code.Reads as place_code_contract
use Rattle.network_places.proofs.only.Reads as only_contract

place_code-unique : Determined place_code_contract.Learnt
place_code-unique κs a x y s u = unique

only-unique : Determined only_contract.Learnt
only-unique κs a x y s u = unique
