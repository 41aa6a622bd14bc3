-- Each public function's promise determines its answer
use Rattle.rules.proofs.Unique.{unique, Determined}
use Rattle.host_alone.proofs.intake.Reads as intake_contract
use Rattle.host_alone.proofs.refresh.Reads as refresh_contract
use Rattle.host_alone.proofs.stop.Reads as stop_contract
use Rattle.host_alone.proofs.time_out.Reads as time_out_contract

intake-unique : Determined intake_contract.Learnt
intake-unique κs a x y s u = unique

time_out-unique : Determined time_out_contract.Learnt
time_out-unique κs a x y s u = unique

refresh-unique : Determined refresh_contract.Learnt
refresh-unique κs a x y s u = unique

stop-unique : Determined stop_contract.Learnt
stop-unique κs a x y s u = unique
