-- Document 01, "What the store holds": creation and the fresh table
use Rattle.std.specs.Prelude.{ℕ, ◌*◌, Bool, true, not, ◌&&◌, ◌||◌, List, replicate, eqb, if◌then◌else◌}
use Rattle.rules.specs.Types.{Epoch, Set, Creation, State, Chunk, Host, Table, Created}
use Rattle.rules.specs.Built.{blank}
use Rattle.rules.specs.Codes.{Row, ◌gives◌⨾◌, granted, code_of}
use Rattle.rules.specs.Hosts.{with_working}
use Rattle.rules.specs.Limits.{host_limit, chunk_limit, block_limit, place_limit, greatest_clock, up_to, one_to}
use Rattle.rules.specs.Tables.{is_host, is_chunk, is_block, set_of}
use Rattle.rules.specs.Words.{every, each, numbers}
use Rattle.rules.specs.Zero.{◌among◌, is_empty, zero_record, zero_host, zero_chunk, zero_place, zero_table}

-- every chunk in the set is one of the store's
abbrev pub of_store : Creation → Set → Bool
of_store k s = every (λ c. not (c among s) || is_chunk k c) (numbers chunk_limit)

-- "Each block has a non-empty set of chunks that hold its copies"; a block that the store lacks has none
abbrev pub is_set_of : Creation → (block : ℕ) → Bool
is_set_of k b = if is_block k b then not (is_empty (set_of k b)) && of_store k (set_of k b) else is_empty (set_of k b)

-- "1 to 8 hosts, 1 to 8 chunks, 1 to 16 blocks. Each block has a non-empty set of chunks that hold its copies, given at
-- creation with the age limit (0 to 4,294,967,295)"
unfoldable pub is_creation : Creation → Bool
is_creation k =
    one_to host_limit k.hosts && one_to chunk_limit k.chunks && one_to block_limit k.blocks
    && every (is_set_of k) (numbers block_limit) && up_to greatest_clock k.age

-- ---- "Fresh: all values and timestamps 0, queues and network empty, epoch 1, chunks nolease and not lost, hosts working
-- with map not current and epoch known 0"

abbrev pub first_epoch : Epoch
first_epoch = record { 0 = 1 }

abbrev pub fresh_chunk : Chunk
fresh_chunk = blank State.Nolease first_epoch

abbrev pub fresh_host : Host
fresh_host = with_working zero_host true

unfoldable pub fresh : Creation → Table
fresh k = record {
  creation = k;
  epoch = first_epoch;
  hosts = each (λ h. if is_host k h then fresh_host else zero_host) (numbers host_limit);
  chunks = each (λ c. if is_chunk k c then fresh_chunk else zero_chunk) (numbers chunk_limit);
  records = replicate (chunk_limit * block_limit) zero_record;
  places = replicate place_limit zero_place;
}

-- "Any other creation is refused with code 1 and gives no store"
abbrev pub creation_refusals : Creation → List Row
creation_refusals k =
    not (is_creation k) gives 1 ⨾
    granted

unfoldable pub created : Creation → Created
created k =
    if eqb (code_of (creation_refusals k)) 0 then record { table = fresh k; code = 0 }
    else record { table = zero_table; code = code_of (creation_refusals k) }
