-- A message is its header and its sort; what each sort does at a chunk and at a host
use Prim.Native.Nat.{ℕ, ◌<◌}
use mathlib.Core.Path.{◌≡◌, refl}
use mathlib.Core.Bool.{Bool, true, false, not}
use lib.Dec.{ltb, leb}
use lib.Seq.{set-get_or}
use borrow.Author.Tests.{ltb-true, leb-false, eqb-true, not-false}
use Rattle.rules.specs.Types.{Epoch, Kind, Record, Attempt, Host, Header, Message, Request, Refusal, Sort, Arrived, Chunk, Entry, Table}
use Rattle.rules.specs.Chunks.{with_waiting, refusing, silent, is_out_of_order, waits, arrived, decides, at_chunk, arrives, ran, runs}
use Rattle.rules.specs.Events.{with_arrived}
use Rattle.rules.specs.Hosts.{answered_by, heard, counts, at_host, hears}
use Rattle.rules.specs.Kinds.{is_normal}
use Rattle.rules.specs.Limits.{waiting_limit}
use Rattle.rules.specs.Messages.{header_of, sort_of, message_of}
use Rattle.rules.specs.Network.{replied}
use Rattle.rules.specs.Tables.{chunk_of, with_record, with_places}
use Rattle.rules.specs.Timestamps.{◌below◌, ◌same◌}
use Rattle.rules.specs.Waiting.{head, head_removed, marked}
use Rattle.rules.specs.Zero.{no_chunk}
use Rattle.rules.proofs.Lists.{walk}

-- the message of a sort with a header has that header and is of that sort
pub made : (h : Header) (s : Sort) → (header_of (message_of h s) ≡ h) × (sort_of (message_of h s) ≡ s)
made h (Sort.Request e Request.Read) = (refl, refl)
made h (Sort.Request e (Request.Prewrite v)) = (refl, refl)
made h (Sort.Request e Request.Commit) = (refl, refl)
made h (Sort.Request e Request.Abort) = (refl, refl)
made h (Sort.Refusal Refusal.Mismatch) = (refl, refl)
made h (Sort.Refusal Refusal.Error) = (refl, refl)
made h (Sort.Refusal Refusal.OutOfOrder) = (refl, refl)
made h (Sort.Refusal Refusal.Busy) = (refl, refl)
made h (Sort.ReadReply v) = (refl, refl)
made h Sort.PrewriteReply = (refl, refl)

-- ---- at a chunk

-- what a read or a prewrite that waits has passed
pub record Passed (blocks : ℕ) (c : Chunk) (r : Record) (header : Header) (epoch : Epoch) (kind : Kind) : Type 0 where
  pub current : epoch.0 ≡ c.epoch.0
  pub block : header.block < blocks
  pub order : is_out_of_order kind header.timestamp r ≡ false
  pub room : r.waiting.count < waiting_limit

-- a read or a prewrite is refused, or it waits
pub arrived-walk : (P : Arrived → Type 0) (blocks : ℕ) (c : Chunk) (r : Record) (header : Header) (epoch : Epoch) (kind : Kind)
    → ((x : Refusal) → P (refusing c r header x)) → (Passed blocks c r header epoch kind → P (waits c r header epoch kind))
    → P (arrived blocks c r header epoch kind)
unfolding arrived
arrived-walk P blocks c r header epoch kind refuse wait =
    walk P (not (epoch same c.epoch)) _ _ (λ _. refuse Refusal.Mismatch) (λ e.
    walk P (not (ltb header.block blocks)) _ _ (λ _. refuse Refusal.Error) (λ l.
    walk P (is_out_of_order kind header.timestamp r) _ _ (λ _. refuse Refusal.OutOfOrder) (λ o.
    walk P (leb waiting_limit r.waiting.count) _ _ (λ _. refuse Refusal.Busy) (λ n.
    wait (record {
      current = eqb-true epoch.0 c.epoch.0 (not-false (epoch same c.epoch) e);
      block = ltb-true header.block blocks (not-false (ltb header.block blocks) l);
      order = o;
      room = leb-false waiting_limit r.waiting.count n;
    })))))

-- a commit or an abort marks, or does nothing
pub decides-walk : (P : Arrived → Type 0) (blocks : ℕ) (c : Chunk) (r : Record) (header : Header) (commit : Bool)
    → (header.block < blocks → P (silent c (with_waiting r (marked commit header.timestamp r.waiting)))) → P (silent c r)
    → P (decides blocks c r header commit)
unfolding decides
decides-walk P blocks c r header commit mark none =
    walk P (ltb header.block blocks) _ _ (λ l. mark (ltb-true header.block blocks l)) (λ _. none)

-- ---- neither an arrival nor a run changes the chunk beside its record

module _ (c : Chunk) where
  -- a chunk as it was
  abbrev Same : Arrived → Type 0
  Same a = a.chunk ≡ c

  at-chunk-same : (blocks : ℕ) (r : Record) (header : Header) (s : Sort) → Same (at_chunk blocks c r header s)
  unfolding at_chunk
  at-chunk-same blocks r header (Sort.Request epoch Request.Read) = arrived-walk Same blocks c r header epoch Kind.Read (λ _. refl) (λ _. refl)
  at-chunk-same blocks r header (Sort.Request epoch (Request.Prewrite v)) =
      arrived-walk Same blocks c r header epoch (Kind.Undecided v) (λ _. refl) (λ _. refl)
  at-chunk-same blocks r header (Sort.Request epoch Request.Commit) = decides-walk Same blocks c r header true (λ _. refl) refl
  at-chunk-same blocks r header (Sort.Request epoch Request.Abort) = decides-walk Same blocks c r header false (λ _. refl) refl
  at-chunk-same blocks r header (Sort.Refusal x) = refl
  at-chunk-same blocks r header (Sort.ReadReply v) = refl
  at-chunk-same blocks r header Sort.PrewriteReply = refl

  pub arrives-same : (blocks : ℕ) (r : Record) (m : Message) → Same (arrives blocks c r m)
  arrives-same blocks r m = walk Same (is_normal c.state) _ _ (λ _. at-chunk-same blocks r (header_of m) (sort_of m)) (λ _. refl)

  runs_same : (chunk block : ℕ) (r : Record) (e : Entry) (k : Kind) → Same (runs chunk block c r e k)
  runs_same chunk block r e (Kind.Aborted v) = refl
  runs_same chunk block r e (Kind.Committed v) = refl
  runs_same chunk block r e (Kind.Undecided v) = refl
  runs_same chunk block r e Kind.Read = walk Same (e.timestamp below r.write) _ _ (λ _. refl) (λ _. refl)

  pub ran-same : (chunk block : ℕ) (r : Record) → Same (ran chunk block c r)
  unfolding ran
  ran-same chunk block r =
      runs_same chunk block (with_waiting r (head_removed r.waiting)) (head r.waiting) (head r.waiting).kind

-- so the record and the network are all that they leave changed
pub left_as : (t : Table) (c b : ℕ) (a : Arrived) → a.chunk ≡ chunk_of t c
    → with_arrived t c b a ≡ with_places (with_record t c b a.held) (replied t.places a.reply)
left_as t c b a e = rw (e, set-get_or t.chunks c no_chunk) refl

-- ---- at a host

-- a refusal clears okay; queue, timestamp, outstanding chunks, epoch and clock stay
pub record Refused (h : Host) (a : Attempt) (now : Host) : Type 0 where
  pub queue : now.queue ≡ h.queue
  pub timestamp : now.attempt.timestamp ≡ a.timestamp
  pub outstanding : now.attempt.outstanding ≡ a.outstanding
  pub okay : now.attempt.okay ≡ false
  pub epoch : now.epoch ≡ h.epoch
  pub clock : now.clock ≡ h.clock

pub heard_refusal : (h : Host) (a : Attempt) (x : Refusal) → Refused h a (heard h a (Sort.Refusal x))
heard_refusal h a Refusal.Mismatch = record { queue = refl; timestamp = refl; outstanding = refl; okay = refl; epoch = refl; clock = refl }
heard_refusal h a Refusal.Error = record { queue = refl; timestamp = refl; outstanding = refl; okay = refl; epoch = refl; clock = refl }
heard_refusal h a Refusal.OutOfOrder = record { queue = refl; timestamp = refl; outstanding = refl; okay = refl; epoch = refl; clock = refl }
heard_refusal h a Refusal.Busy = record { queue = refl; timestamp = refl; outstanding = refl; okay = refl; epoch = refl; clock = refl }

-- a host that hears keeps its queue, its timestamp, its epoch and its clock
pub record Hears (h now : Host) : Type 0 where
  pub queue : now.queue ≡ h.queue
  pub timestamp : now.attempt.timestamp ≡ h.attempt.timestamp
  pub epoch : now.epoch ≡ h.epoch
  pub clock : now.clock ≡ h.clock

-- .. one that hears nothing too
hears_self : (h : Host) → Hears h h
hears_self h = record { queue = refl; timestamp = refl; epoch = refl; clock = refl }

-- what is heard, by its sort
pub heard-keeps : (h : Host) (c : ℕ) (s : Sort) → Hears h (heard h (answered_by h.attempt c) s)
heard-keeps h c (Sort.Refusal x) =
    let r = heard_refusal h (answered_by h.attempt c) x in
    record { queue = r.queue; timestamp = r.timestamp; epoch = r.epoch; clock = r.clock }
heard-keeps h c (Sort.ReadReply v) = record { queue = refl; timestamp = refl; epoch = refl; clock = refl }
heard-keeps h c Sort.PrewriteReply = record { queue = refl; timestamp = refl; epoch = refl; clock = refl }
heard-keeps h c (Sort.Request epoch q) = hears_self h

-- any message
pub hears-keeps : (h : Host) (m : Message) → Hears h (hears h m)
unfolding at_host
hears-keeps h m =
    walk (Hears h) h.working _ _
    (λ _. walk (Hears h) (counts h m) _ _ (λ _. heard-keeps h (header_of m).chunk (sort_of m)) (λ _. hears_self h))
    (λ _. hears_self h)
