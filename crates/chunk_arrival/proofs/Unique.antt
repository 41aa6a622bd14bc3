-- The public promise determines its answer
use Rattle.rules.proofs.Unique.{unique, Determined}
use Rattle.chunk_arrival.proofs.arrive.Reads as arrive_contract

arrive-unique : Determined arrive_contract.Learnt
arrive-unique κs a x y s u = unique
