-- One host: what is refused it, what a reply does at it, what becomes of it
use Rattle.std.specs.Prelude.{ℕ, Bool, true, false, not, ◌&&◌, List, [], ◌∷◌, ◌++◌, get_or, set, take, drop, length, eqb, ltb, leb, if◌then◌else◌}
use Rattle.rules.specs.Types.{Timestamp, Epoch, Set, Action, Operation, Queue, Attempt, Host, Message, Request, Refusal, Sort, Outcome}
use Rattle.rules.specs.Codes.{Row, ◌gives◌⨾◌, granted}
use Rattle.rules.specs.Kinds.{is_reading}
use Rattle.rules.specs.Limits.{chunk_limit, operation_limit}
use Rattle.rules.specs.Messages.{header_of, sort_of}
use Rattle.rules.specs.Timestamps.{never, ◌is◌, ◌above◌}
use Rattle.rules.specs.Words.{each, numbers, filled}
use Rattle.rules.specs.Zero.{◌among◌, is_empty, zero_set, zero_operation, zero_attempt}

-- ---- a host and an attempt with one field changed

abbrev pub with_working : Host → Bool → Host
with_working h x = record { working = x; queue = h.queue; attempt = h.attempt; epoch = h.epoch; mapped = h.mapped; clock = h.clock }

abbrev pub with_queue : Host → Queue → Host
with_queue h x = record { working = h.working; queue = x; attempt = h.attempt; epoch = h.epoch; mapped = h.mapped; clock = h.clock }

abbrev pub with_attempt : Host → Attempt → Host
with_attempt h x = record { working = h.working; queue = h.queue; attempt = x; epoch = h.epoch; mapped = h.mapped; clock = h.clock }

abbrev pub with_known : Host → Epoch → Host
with_known h x = record { working = h.working; queue = h.queue; attempt = h.attempt; epoch = x; mapped = h.mapped; clock = h.clock }

abbrev pub with_mapped : Host → Bool → Host
with_mapped h x = record { working = h.working; queue = h.queue; attempt = h.attempt; epoch = h.epoch; mapped = x; clock = h.clock }

abbrev pub with_clock : Host → ℕ → Host
with_clock h x = record { working = h.working; queue = h.queue; attempt = h.attempt; epoch = h.epoch; mapped = h.mapped; clock = x }

abbrev pub with_outstanding : Attempt → Set → Attempt
with_outstanding a x = record { timestamp = a.timestamp; outstanding = x; okay = a.okay; restart = a.restart; result = a.result }

abbrev pub with_okay : Attempt → Bool → Attempt
with_okay a x = record { timestamp = a.timestamp; outstanding = a.outstanding; okay = x; restart = a.restart; result = a.result }

abbrev pub with_restart : Attempt → Bool → Attempt
with_restart a x = record { timestamp = a.timestamp; outstanding = a.outstanding; okay = a.okay; restart = x; result = a.result }

abbrev pub with_result : Attempt → ℕ → Attempt
with_result a x = record { timestamp = a.timestamp; outstanding = a.outstanding; okay = a.okay; restart = a.restart; result = x }

-- ---- operations: the front one is the current one while the host has an attempt

abbrev pub operations_of : Host → List Operation
operations_of h = take h.queue.count h.queue.operations

unfoldable pub queue_of : List Operation → Queue
queue_of l = record { count = length l; operations = filled operation_limit zero_operation l }

abbrev pub front : Host → Operation
front h = get_or (operations_of h) 0 zero_operation

-- "With one, the current timestamp is above 0"
abbrev pub has_current : Host → Bool
has_current h = h.attempt.timestamp above never

abbrev pub is_outstanding : Host → Bool
is_outstanding h = not (is_empty h.attempt.outstanding)

-- ---- "1 read (host, block); 2 write (host, block, value). Stopped: 2. Full: 4. Else appended"

abbrev pub intake_refusals : Host → List Row
intake_refusals h =
    not h.working gives 2 ⨾
    leb operation_limit h.queue.count gives 4 ⨾
    granted

unfoldable pub appended : Host → Operation → Host
appended h o = with_queue h (queue_of (operations_of h ++ o ∷ []))

-- ---- "3 start: Needs working, no current operation, one waiting, map current (2); .. a read's copy must be in the set (1; a
-- write passes over it ..); clock (3); room (5)"

-- holders: the block's set; free: the free places; messages: how many the step sends
abbrev pub start_refusals : Host → (clock copy : ℕ) → (holders : Set) → (free messages : ℕ) → List Row
start_refusals h clock copy holders free messages =
    not h.working gives 2 ⨾
    has_current h gives 2 ⨾
    eqb h.queue.count 0 gives 2 ⨾
    not h.mapped gives 2 ⨾
    is_reading (front h).action && not (copy among holders) gives 1 ⨾
    leb clock h.clock gives 3 ⨾
    ltb free messages gives 5 ⨾
    granted

-- one chunk alone
abbrev pub only : (chunk : ℕ) → Set
only c = record { chunks = each (eqb c) (numbers chunk_limit) }

-- "A read sends one read to the copy; a write sends a prewrite to each chunk of the set"
abbrev pub opening_to : Action → (copy : ℕ) → (holders : Set) → Set
opening_to Action.Read copy holders = only copy
opening_to (Action.Write v) copy holders = holders

abbrev pub opening : Action → Request
opening Action.Read = Request.Read
opening (Action.Write v) = Request.Prewrite v

-- "The front waiting operation becomes the current one. Okay and restart become true, the result value 0. .. Those are
-- outstanding. For drawing, each host's clock keeper hands out a number and remembers it"
abbrev pub started : Host → Timestamp → (clock : ℕ) → Set → Host
started h t clock to =
    with_clock (with_attempt h (record { timestamp = t; outstanding = to; okay = true; restart = true; result = 0 })) clock

-- ---- a reply at a host

-- "a read or prewrite reply suits the operation"
abbrev pub suits : (reading : Bool) → Sort → Bool
suits reading (Sort.ReadReply v) = reading
suits reading Sort.PrewriteReply = not reading
suits reading (Sort.Refusal x) = true
suits reading (Sort.Request epoch q) = true

-- "a reply counts only if its timestamp is the current one, its chunk is outstanding, and a read or prewrite reply suits the
-- operation"
abbrev pub counts : Host → Message → Bool
counts h m =
    (header_of m).timestamp is h.attempt.timestamp && (header_of m).chunk among h.attempt.outstanding
    && suits (is_reading (front h).action) (sort_of m)

-- "The chunk is then no longer outstanding"
abbrev pub answered_by : Attempt → (chunk : ℕ) → Attempt
answered_by a c = with_outstanding a (record { chunks = set a.outstanding.chunks c false })

-- "Mismatch, out of order, busy and error clear okay; mismatch also makes the map not current; error clears restart. A read
-- reply sets the result value." (Requests go to chunks.)
abbrev pub heard : Host → Attempt → Sort → Host
heard h a (Sort.Refusal Refusal.Mismatch) = with_mapped (with_attempt h (with_okay a false)) false
heard h a (Sort.Refusal Refusal.OutOfOrder) = with_attempt h (with_okay a false)
heard h a (Sort.Refusal Refusal.Busy) = with_attempt h (with_okay a false)
heard h a (Sort.Refusal Refusal.Error) = with_attempt h (with_restart (with_okay a false) false)
heard h a (Sort.ReadReply v) = with_attempt h (with_result a v)
heard h a Sort.PrewriteReply = with_attempt h a
heard h a (Sort.Request epoch q) = h

unfoldable pub at_host : Host → Message → Host
at_host h m = if counts h m then heard h (answered_by h.attempt (header_of m).chunk) (sort_of m) else h

-- ".. and a stopped host take no notice"
abbrev pub hears : Host → Message → Host
hears h m = if h.working then at_host h m else h

-- ---- "6 finish (host). Needs working, a current operation, nothing outstanding (2); room for a write's messages (5)"

abbrev pub finish_refusals : Host → (free messages : ℕ) → List Row
finish_refusals h free messages =
    not h.working gives 2 ⨾
    not (has_current h) gives 2 ⨾
    is_outstanding h gives 2 ⨾
    ltb free messages gives 5 ⨾
    granted

-- a write's messages go to each chunk of the set; a read has none
abbrev pub closing_to : Action → (holders : Set) → Set
closing_to Action.Read holders = zero_set
closing_to (Action.Write v) holders = holders

-- "Okay write: commit to each chunk of the set .. Not okay: abort to each"
abbrev pub closing : (okay : Bool) → Request
closing okay = if okay then Request.Commit else Request.Abort

-- "Okay write: .. write done .. Okay read: read done"
abbrev pub done_as : (host : ℕ) → Operation → Action → (result : ℕ) → Outcome
done_as host o Action.Read result = Outcome.ReadDone host o.block result
done_as host o (Action.Write v) result = Outcome.WriteDone host o.block

abbrev pub failed_as : (host : ℕ) → Operation → Action → Outcome
failed_as host o Action.Read = Outcome.ReadFailed host o.block
failed_as host o (Action.Write v) = Outcome.WriteFailed host o.block

-- "Not okay, of either sort: with restart the operation goes back to the front, otherwise it has failed"
abbrev pub goes_back : Attempt → Bool
goes_back a = not a.okay && a.restart

unfoldable pub finish_outcome : (host : ℕ) → Host → Outcome
finish_outcome host h =
    if h.attempt.okay then done_as host (front h) (front h).action h.attempt.result else
    if h.attempt.restart then Outcome.None else
    failed_as host (front h) (front h).action

-- "No current operation remains, and its fields become zero or false"
abbrev pub ended : Host → Host
ended h = with_attempt h zero_attempt

unfoldable pub finished : Host → Host
finished h = if goes_back h.attempt then ended h else with_queue (ended h) (queue_of (drop 1 (operations_of h)))

-- ---- "7 timeout (host): needs working, something outstanding (2). Okay false, nothing outstanding"

abbrev pub timeout_refusals : Host → List Row
timeout_refusals h =
    not h.working gives 2 ⨾
    not (is_outstanding h) gives 2 ⨾
    granted

abbrev pub timed_out : Host → Host
timed_out h = with_attempt h (with_outstanding (with_okay h.attempt false) zero_set)

-- ---- "8 refresh (host): working (2). Epoch known becomes the store's, map current"; "10 stop (host), once; its other fields
-- stay"

abbrev pub working_refusals : Host → List Row
working_refusals h =
    not h.working gives 2 ⨾
    granted

abbrev pub refreshed : Host → Epoch → Host
refreshed h epoch = with_mapped (with_known h epoch) true

abbrev pub stopped : Host → Host
stopped h = with_working h false
