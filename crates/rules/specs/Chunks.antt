-- One chunk: what is refused it, what a message does at it, what becomes of it
use Rattle.std.specs.Prelude.{ℕ, Bool, true, false, not, ◌&&◌, ◌||◌, List, set, eqb, ltb, leb, pos, ◌-ℤ◌, if◌then◌else◌, None, Some}
use Rattle.std.specs.Int.Signed.{lt_z}
use Rattle.rules.specs.Types.{Timestamp, Epoch, Kind, Entry, Waiting, Record, State, Chunk, Header, Message, Request, Refusal, Sort, Arrived}
use Rattle.rules.specs.Built.{entry_with, no_blocks}
use Rattle.rules.specs.Codes.{Row, ◌gives◌⨾◌, granted}
use Rattle.rules.specs.Kinds.{is_read, is_undecided, is_write, is_normal, is_nolease, is_failed}
use Rattle.rules.specs.Limits.{waiting_limit}
use Rattle.rules.specs.Messages.{headed, header_of, sort_of, message_of}
use Rattle.rules.specs.Timestamps.{clock_of, ◌below◌, ◌same◌, later}
use Rattle.rules.specs.Waiting.{head, inserted, head_removed, marked}
use Rattle.rules.specs.Zero.{zero_waiting}

-- ---- a chunk and a record with one field changed

abbrev pub with_state : Chunk → State → Chunk
with_state c x = record { state = x; lost = c.lost; epoch = c.epoch; reconcile = c.reconcile }

abbrev pub with_lost : Chunk → Bool → Chunk
with_lost c x = record { state = c.state; lost = x; epoch = c.epoch; reconcile = c.reconcile }

abbrev pub with_reconcile : Chunk → List Bool → Chunk
with_reconcile c x = record { state = c.state; lost = c.lost; epoch = c.epoch; reconcile = x }

abbrev pub with_value : Record → ℕ → Record
with_value r x = record { value = x; read = r.read; write = r.write; waiting = r.waiting }

abbrev pub with_read : Record → Timestamp → Record
with_read r x = record { value = r.value; read = x; write = r.write; waiting = r.waiting }

abbrev pub with_write : Record → Timestamp → Record
with_write r x = record { value = r.value; read = r.read; write = x; waiting = r.waiting }

abbrev pub with_waiting : Record → Waiting → Record
with_waiting r x = record { value = r.value; read = r.read; write = r.write; waiting = x }

-- the chunk and its record, with a reply or with none. A reply has its request's header
abbrev pub answering : Chunk → Record → Header → Sort → Arrived
answering c r header s = record { chunk = c; held = r; reply = Some (message_of header s) }

abbrev pub refusing : Chunk → Record → Header → Refusal → Arrived
refusing c r header x = answering c r header (Sort.Refusal x)

abbrev pub silent : Chunk → Record → Arrived
silent c r = record { chunk = c; held = r; reply = None }

-- ---- "Read or prewrite at a chunk, in this order"

-- "timestamp below last write (a prewrite: or below last read), out of order"
abbrev pub is_out_of_order : Kind → Timestamp → Record → Bool
is_out_of_order kind t r = t below r.write || is_write kind && t below r.read

-- the entry that a read or a prewrite waits as
abbrev pub entry_of : Header → Epoch → Kind → Entry
entry_of header epoch kind = entry_with header.timestamp header.host epoch kind

-- "else it waits, after its equals, and a prewrite is answered with a prewrite reply"
abbrev pub waits : Chunk → Record → Header → Epoch → Kind → Arrived
waits c r header epoch kind =
    let now = with_waiting r (inserted r.waiting (entry_of header epoch kind)) in
    if is_write kind then answering c now header Sort.PrewriteReply else silent c now

unfoldable pub arrived : (blocks : ℕ) → Chunk → Record → Header → Epoch → Kind → Arrived
arrived blocks c r header epoch kind =
    -- "epoch differs, version mismatch"
    if not (epoch same c.epoch) then refusing c r header Refusal.Mismatch else
    -- "block outside 0 to blocks-1, error"
    if not (ltb header.block blocks) then refusing c r header Refusal.Error else
    if is_out_of_order kind header.timestamp r then refusing c r header Refusal.OutOfOrder else
    -- "8 waiting, busy"
    if leb waiting_limit r.waiting.count then refusing c r header Refusal.Busy else
    waits c r header epoch kind

-- "Commit and abort ignore the epoch and act on the first entry in waiting order with that timestamp ..; otherwise, or for a
-- block outside, nothing changes"
unfoldable pub decides : (blocks : ℕ) → Chunk → Record → Header → (commit : Bool) → Arrived
decides blocks c r header commit =
    if ltb header.block blocks then silent c (with_waiting r (marked commit header.timestamp r.waiting)) else
    silent c r

-- a message at a chunk, with its record of the message's block. (Replies go to hosts.)
unfoldable pub at_chunk : (blocks : ℕ) → Chunk → Record → Header → Sort → Arrived
at_chunk blocks c r header (Sort.Request epoch Request.Read) = arrived blocks c r header epoch Kind.Read
at_chunk blocks c r header (Sort.Request epoch (Request.Prewrite v)) = arrived blocks c r header epoch (Kind.Undecided v)
at_chunk blocks c r header (Sort.Request epoch Request.Commit) = decides blocks c r header true
at_chunk blocks c r header (Sort.Request epoch Request.Abort) = decides blocks c r header false
at_chunk blocks c r header (Sort.Refusal x) = silent c r
at_chunk blocks c r header (Sort.ReadReply v) = silent c r
at_chunk blocks c r header Sort.PrewriteReply = silent c r

-- "A failed or nolease chunk .. take no notice"
abbrev pub arrives : (blocks : ℕ) → Chunk → Record → Message → Arrived
arrives blocks c r m = if is_normal c.state then at_chunk blocks c r (header_of m) (sort_of m) else silent c r

-- ---- "9 run (chunk, block): normal, head exists and isn't undecided (2); room if the head is a read (5)"

abbrev pub run_refusals : State → Waiting → (free : ℕ) → List Row
run_refusals state w free =
    not (is_normal state) gives 2 ⨾
    eqb w.count 0 gives 2 ⨾
    is_undecided (head w).kind gives 2 ⨾
    is_read (head w).kind && eqb free 0 gives 5 ⨾
    granted

-- "The head is removed; for an aborted one that is all. Committed: value set, last write raised to its timestamp. Read: below
-- last write, out of order goes to the sender; else last read is raised and a read reply goes"
abbrev pub runs : (chunk block : ℕ) → Chunk → Record → Entry → Kind → Arrived
runs chunk block c r e (Kind.Aborted v) = silent c r
runs chunk block c r e (Kind.Committed v) = silent c (with_write (with_value r v) (later r.write e.timestamp))
runs chunk block c r e Kind.Read =
    let header = headed e.sender chunk block e.timestamp in
    if e.timestamp below r.write then refusing c r header Refusal.OutOfOrder else
    answering c (with_read r (later r.read e.timestamp)) header (Sort.ReadReply r.value)
-- (never: an undecided head is refused)
runs chunk block c r e (Kind.Undecided v) = silent c r

unfoldable pub ran : (chunk block : ℕ) → Chunk → Record → Arrived
ran chunk block c r = runs chunk block c (with_waiting r (head_removed r.waiting)) (head r.waiting) (head r.waiting).kind

-- ---- the chunk's own events; each is refused with 2 out of its state

-- "11 fail (chunk): from normal or nolease"
abbrev pub fail_refusals : State → List Row
fail_refusals state =
    is_failed state gives 2 ⨾
    granted

-- "all its waiting entries and its reconciliation set go, lost is set; values, last reads, last writes and epoch persist"
abbrev pub failed : Chunk → Chunk
failed c = with_lost (with_reconcile (with_state c State.Failed) no_blocks) true

abbrev pub emptied : Record → Record
emptied r = with_waiting r zero_waiting

-- "12 recover: failed to nolease"
abbrev pub recover_refusals : State → List Row
recover_refusals state =
    not (is_failed state) gives 2 ⨾
    granted

abbrev pub recovered : Chunk → Chunk
recovered c = with_state c State.Nolease

-- "13 take lease: normal to nolease"
abbrev pub take_lease_refusals : State → List Row
take_lease_refusals state =
    not (is_normal state) gives 2 ⨾
    granted

abbrev pub lease_taken : Chunk → Chunk
lease_taken c = with_state c State.Nolease

-- "14 give lease: nolease to normal, if not lost. Else 2"
abbrev pub give_lease_refusals : State → (lost : Bool) → List Row
give_lease_refusals state lost =
    not (is_nolease state) gives 2 ⨾
    lost gives 2 ⨾
    granted

abbrev pub lease_given : Chunk → Chunk
lease_given c = with_state c State.Normal

-- "16 overdue (chunk, block, now): normal, head undecided, and now minus the head's clock above the age limit, else 2. The
-- difference may be below zero, and then nothing is overdue"
abbrev pub is_overdue : (now : ℕ) → Timestamp → (age : ℕ) → Bool
is_overdue now t age = lt_z (pos age) (pos now -ℤ pos (clock_of t))

abbrev pub overdue_refusals : State → Waiting → (now age : ℕ) → List Row
overdue_refusals state w now age =
    not (is_normal state) gives 2 ⨾
    not (is_undecided (head w).kind) gives 2 ⨾
    not (is_overdue now (head w).timestamp age) gives 2 ⨾
    granted

-- "The block joins the set"
abbrev pub overdue : Chunk → (block : ℕ) → Chunk
overdue c b = with_reconcile c (set c.reconcile b true)
