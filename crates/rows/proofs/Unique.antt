-- Each public function's promise determines its answer, whatever the elements and however many places
use Rattle.rules.proofs.Unique.{unique, Determined}
use Rattle.rows.proofs.used.Reads as used_contract
use Rattle.rows.proofs.used_from.Reads as used_from_contract

used-unique : (T : _) (laws : _) → Determined (used_contract.Learnt T laws)
used-unique T laws κs a x y s u p q = unique p.0 q.0

used_from-unique : (T : _) (N : _) (laws : _) (fits : _) (copy : _) (clones : _) (dict : _) → Determined (used_from_contract.Learnt T N laws fits copy clones dict)
used_from-unique T N laws fits copy clones dict κs a x y s u = unique
