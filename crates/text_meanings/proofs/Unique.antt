-- Each public function's promise determines its answer
use Rattle.rules.proofs.Unique.{unique, Determined}
use Rattle.text_meanings.proofs.creation_of.Reads as creation_of_contract
use Rattle.text_meanings.proofs.event_of.Reads as event_of_contract

event_of-unique : Determined event_of_contract.Learnt
event_of-unique κs a x y s u = unique

creation_of-unique : Determined creation_of_contract.Learnt
creation_of-unique κs a x y s u = unique
