-- Each public function's promise determines its answer
use Rattle.rules.proofs.Unique.{unique, Determined}
use Rattle.event_operands.proofs.block_at.Reads as block_at_contract
use Rattle.event_operands.proofs.chunk_at.Reads as chunk_at_contract
use Rattle.event_operands.proofs.count.Reads as count_contract
use Rattle.event_operands.proofs.host_at.Reads as host_at_contract
use Rattle.event_operands.proofs.in_range.Reads as in_range_contract
use Rattle.event_operands.proofs.place_at.Reads as place_at_contract
use Rattle.event_operands.proofs.StepTryFromU64.try_from.Reads as try_from_contract

try_from-unique : Determined try_from_contract.Learnt
try_from-unique κs a x y s u = unique

in_range-unique : Determined in_range_contract.Learnt
in_range-unique κs a x y s u = unique

count-unique : Determined count_contract.Learnt
count-unique κs a x y s u = unique

place_at-unique : Determined place_at_contract.Learnt
place_at-unique κs a x y s u = unique

host_at-unique : Determined host_at_contract.Learnt
host_at-unique κs a x y s u = unique

chunk_at-unique : Determined chunk_at_contract.Learnt
chunk_at-unique κs a x y s u = unique

block_at-unique : Determined block_at_contract.Learnt
block_at-unique κs a x y s u = unique
