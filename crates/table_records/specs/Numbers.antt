-- The numbers of records
use Rattle.std.specs.Prelude.{ℕ, ◌*◌, ◌&&◌, ltb, if◌then◌else◌}
use Rattle.rules.specs.Limits.{chunk_limit, block_limit}
use Rattle.rules.specs.Tables.{at}

-- where chunk c has block b among the records; where there is no such chunk or block, the number beyond the last
abbrev pub record_number : (chunk block : ℕ) → ℕ
record_number c b = if ltb c chunk_limit && ltb b block_limit then at c b else chunk_limit * block_limit
