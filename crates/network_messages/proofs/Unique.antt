-- Each public function's promise determines its answer
use Rattle.rules.proofs.Unique.{unique, Determined}
use Rattle.network_messages.proofs.header_of.Reads as header_of_contract
use Rattle.network_messages.proofs.is_for_chunk.Reads as is_for_chunk_contract
use Rattle.network_messages.proofs.message_of.Reads as message_of_contract
use Rattle.network_messages.proofs.sort_of.Reads as sort_of_contract

header_of-unique : Determined header_of_contract.Learnt
header_of-unique κs a x y s u = unique

sort_of-unique : Determined sort_of_contract.Learnt
sort_of-unique κs a x y s u = unique

message_of-unique : Determined message_of_contract.Learnt
message_of-unique κs a x y s u = unique

is_for_chunk-unique : Determined is_for_chunk_contract.Learnt
is_for_chunk-unique κs a x y s u = unique
