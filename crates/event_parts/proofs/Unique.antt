-- Each public function's promise determines its answer
use Rattle.rules.proofs.Unique.{unique, Determined}
use Rattle.event_parts.proofs.act.Reads as act_contract
use Rattle.event_parts.proofs.ActedFromParts.from.Reads as from_contract

act-unique : Determined act_contract.Learnt
act-unique κs a x y s u = unique

from-unique : Determined from_contract.Learnt
from-unique κs a x y s u = unique
