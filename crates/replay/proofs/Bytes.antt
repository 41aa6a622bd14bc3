-- The table's size is that of the layout by which the compiled code lies in memory
use Rattle.std.proofs.Common.{◌≡◌, refl}
use prog.Memory.{size}
use Rattle.rules.proofs.Table.TheLaws.{mir}
use Rattle.replay.specs.Replay.{table_bytes}

table_bytes_lem : size mir ≡ table_bytes
table_bytes_lem = refl
