-- A message: its header, and of which sort it is
use Rattle.std.specs.Prelude.{ℕ, Bool, true, false}
use Rattle.rules.specs.Types.{Timestamp, Epoch, Header, Message, Request, Refusal, Sort}

abbrev pub headed : (host chunk block : ℕ) → Timestamp → Header
headed host chunk block t = record { host = host; chunk = chunk; block = block; timestamp = t }

-- "Each has host, chunk, block and timestamp"
abbrev pub header_of : Message → Header
header_of (Message.Read h c b t e) = headed h c b t
header_of (Message.Prewrite h c b t e v) = headed h c b t
header_of (Message.Commit h c b t e) = headed h c b t
header_of (Message.Abort h c b t e) = headed h c b t
header_of (Message.Mismatch h c b t) = headed h c b t
header_of (Message.Error h c b t) = headed h c b t
header_of (Message.OutOfOrder h c b t) = headed h c b t
header_of (Message.Busy h c b t) = headed h c b t
header_of (Message.ReadReply h c b t v) = headed h c b t
header_of (Message.PrewriteReply h c b t) = headed h c b t

-- "read, prewrite, commit, abort; version mismatch, error, out of order, busy, read reply, prewrite reply. .. the first four also
-- the epoch the host knows; a prewrite and a read reply a value"
abbrev pub sort_of : Message → Sort
sort_of (Message.Read h c b t e) = Sort.Request e Request.Read
sort_of (Message.Prewrite h c b t e v) = Sort.Request e (Request.Prewrite v)
sort_of (Message.Commit h c b t e) = Sort.Request e Request.Commit
sort_of (Message.Abort h c b t e) = Sort.Request e Request.Abort
sort_of (Message.Mismatch h c b t) = Sort.Refusal Refusal.Mismatch
sort_of (Message.Error h c b t) = Sort.Refusal Refusal.Error
sort_of (Message.OutOfOrder h c b t) = Sort.Refusal Refusal.OutOfOrder
sort_of (Message.Busy h c b t) = Sort.Refusal Refusal.Busy
sort_of (Message.ReadReply h c b t v) = Sort.ReadReply v
sort_of (Message.PrewriteReply h c b t) = Sort.PrewriteReply

-- the message of a sort with a header
abbrev pub message_of : Header → Sort → Message
message_of h (Sort.Request e Request.Read) = Message.Read h.host h.chunk h.block h.timestamp e
message_of h (Sort.Request e (Request.Prewrite v)) = Message.Prewrite h.host h.chunk h.block h.timestamp e v
message_of h (Sort.Request e Request.Commit) = Message.Commit h.host h.chunk h.block h.timestamp e
message_of h (Sort.Request e Request.Abort) = Message.Abort h.host h.chunk h.block h.timestamp e
message_of h (Sort.Refusal Refusal.Mismatch) = Message.Mismatch h.host h.chunk h.block h.timestamp
message_of h (Sort.Refusal Refusal.Error) = Message.Error h.host h.chunk h.block h.timestamp
message_of h (Sort.Refusal Refusal.OutOfOrder) = Message.OutOfOrder h.host h.chunk h.block h.timestamp
message_of h (Sort.Refusal Refusal.Busy) = Message.Busy h.host h.chunk h.block h.timestamp
message_of h (Sort.ReadReply v) = Message.ReadReply h.host h.chunk h.block h.timestamp v
message_of h Sort.PrewriteReply = Message.PrewriteReply h.host h.chunk h.block h.timestamp

-- what a host that knows the epoch asks of a chunk
abbrev pub asking : Header → Epoch → Request → Message
asking header epoch q = message_of header (Sort.Request epoch q)

-- requests go to the chunk, replies to the host
abbrev pub is_for_chunk : Sort → Bool
is_for_chunk (Sort.Request epoch q) = true
is_for_chunk (Sort.Refusal x) = false
is_for_chunk (Sort.ReadReply v) = false
is_for_chunk Sort.PrewriteReply = false
