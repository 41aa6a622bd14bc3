-- Document 01, "What the store holds": limits and ranges, each named once
use Rattle.std.specs.Prelude.{ℕ, Bool, ◌&&◌, leb}

-- "1 to 8 hosts, 1 to 8 chunks, 1 to 16 blocks"
abbrev pub host_limit : ℕ
host_limit = 8

abbrev pub chunk_limit : ℕ
chunk_limit = 8

abbrev pub block_limit : ℕ
block_limit = 16

-- "up to 8 operations, counting the current one"
abbrev pub operation_limit : ℕ
operation_limit = 8

-- "up to 8 waiting entries"
abbrev pub waiting_limit : ℕ
waiting_limit = 8

-- "Network: 64 places"
abbrev pub place_limit : ℕ
place_limit = 64

-- "Clocks and epochs go up to 4,294,967,295"; the age limit too
abbrev pub greatest_clock : ℕ
greatest_clock = 4294967295

-- "A timestamp is clock x 8 + host number"
abbrev pub clock_factor : ℕ
clock_factor = 8

-- "a timestamp anything up to 34,359,738,367"
abbrev pub greatest_timestamp : ℕ
greatest_timestamp = 34359738367

-- n is one of 0 to the greatest. (A value is any 64-bit number, so every number of the machine is one.)
abbrev pub up_to : (greatest n : ℕ) → Bool
up_to greatest n = leb n greatest

-- n is one of 1 to the greatest
abbrev pub one_to : (greatest n : ℕ) → Bool
one_to greatest n = leb 1 n && leb n greatest
