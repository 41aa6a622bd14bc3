-- The store as one block sees it, with its history: from tables to `Inv`
use Rattle.std.specs.Prelude.{Option}
use Prim.Native.Nat.{ℕ, ◌≤◌, ◌<◌}
use mathlib.Core.Path.{◌≡◌, sym, ◌∙◌, ap}
use mathlib.Core.Logic.{◌⊎◌, inl, inr}
use mathlib.Core.Bool.{Bool, true, false, not}
use mathlib.Core.List.{List}
use native.Mathlib.Omega.{arith}
use Rattle.one_copy.specs.Types.{Set, Kind, Entry, Record, State, Chunk, Action, Host, Header, Message, Refusal, Sort, Table}
use Rattle.one_copy.specs.Listed.{Write}
use Rattle.rules.specs.Hosts.{front}
use Rattle.rules.specs.Kinds.{is_normal, is_reading}
use Rattle.rules.specs.Messages.{header_of, message_of}
use Rattle.rules.specs.Tables.{host_of, chunk_of, record_of}
use Rattle.rules.specs.Timestamps.{stamp}
use Rattle.rules.specs.Waiting.{in_order}
use Rattle.rules.specs.Zero.{◌among◌, is_empty}
use Rattle.rules.proofs.Messages.{made}
use Rattle.one_copy.proofs.Tests.{at, at_all, at_split}
use Rattle.one_copy.proofs.Abs.{Began, Mark, und, cmt, abt, idle, Cell, Book, Flow, Inv}
use Rattle.one_copy.proofs.Flows.{shrink}
use Rattle.one_copy.proofs.Lists.{Any}
use Rattle.one_copy.proofs.Net.{Sent, OfRead, OfPre, OfCommit, OfAbort, OfValue, OfAck}

-- what one block's history remembers
pub record Hist : Type 0 where
  pub kind : ℕ → Began
  pub value : ℕ → ℕ
  pub ae : ℕ → ℕ
  pub listed : List Write
  pub reads : List Write

-- a chunk's part in one block
pub record Part : Type 0 where
  pub mode : State
  pub lost : Bool
  pub val : ℕ
  pub rd : ℕ
  pub wr : ℕ
  pub queue : List Entry

-- from a chunk and its record
abbrev pub part_with : Chunk → Record → Part
part_with c r = record { mode = c.state; lost = c.lost; val = r.value; rd = r.read.0; wr = r.write.0; queue = in_order r.waiting }

-- of a table
abbrev pub part_of : Table → (block chunk : ℕ) → Part
part_of t b c = part_with (chunk_of t c) (record_of t c b)

-- a host's part: its front operation and its attempt
pub record Seat : Type 0 where
  pub block : ℕ
  pub write : Bool
  pub value : ℕ
  pub ts : ℕ
  pub out : Set
  pub okay : Bool
  pub result : ℕ
  pub known : ℕ
  pub clock : ℕ

-- the value that an operation writes
abbrev pub written : Action → ℕ
written Action.Read = 0
written (Action.Write v) = v

-- of a host
abbrev pub seat_of : Host → Seat
seat_of x = record {
  block = (front x).block;
  write = not (is_reading (front x).action);
  value = written (front x).action;
  ts = x.attempt.timestamp.0;
  out = x.attempt.outstanding;
  okay = x.attempt.okay;
  result = x.attempt.result;
  known = x.epoch.0;
  clock = x.clock;
}

-- of a table
abbrev pub seats_of : Table → ℕ → Seat
seats_of t j = seat_of (host_of t j)

-- listed under t, and with x
abbrev pub IsTs : ℕ → Write → Type 0
IsTs t w = w.timestamp.0 ≡ t

-- and with x
abbrev pub IsIt : ℕ → ℕ → Write → Type 0
IsIt t x w = (w.timestamp.0 ≡ t) × (w.value ≡ x)

-- an entry that is a write with a value and a mark, or a read
abbrev pub AsWrite : ℕ → Mark → Kind → Type 0
AsWrite v m Kind.Read = ⊥
AsWrite v m (Kind.Undecided x) = (x ≡ v) × (m ≡ und)
AsWrite v m (Kind.Committed x) = (x ≡ v) × (m ≡ cmt)
AsWrite v m (Kind.Aborted x) = (x ≡ v) × (m ≡ abt)

-- or a read
abbrev pub AsRead : Kind → Type 0
AsRead Kind.Read = Unit {0}
AsRead (Kind.Undecided x) = ⊥
AsRead (Kind.Committed x) = ⊥
AsRead (Kind.Aborted x) = ⊥

-- an entry under t that is such a write
abbrev pub IsW : ℕ → ℕ → Mark → Entry → Type 0
IsW t v m e = (e.timestamp.0 ≡ t) × AsWrite v m e.kind

-- or a read
abbrev pub IsR : ℕ → Entry → Type 0
IsR t e = (e.timestamp.0 ≡ t) × AsRead e.kind

-- the part as a cell
abbrev pub cell_of : Part → Cell
cell_of p = record {
  wr = p.wr;
  rd = p.rd;
  val = p.val;
  lost = p.lost;
  w = λ t v m. Any (IsW t v m) p.queue;
  r =
      λ t. Any (IsR t) p.queue;
}

-- the era is the epoch, and nothing is void
abbrev pub book : Hist → ℕ → Book
book h ep = record { era = ep; kind = h.kind; value = h.value; ae = h.ae; L = λ t. Any (IsTs t) h.listed; Void = λ _. ⊥ }

-- x is busy with a write of block b under t
pub record HasW (b : ℕ) (x : Seat) (t : ℕ) : Type 0 where
  pub stamp : x.ts ≡ t
  pub pos : 0 < t
  pub write : x.write ≡ true
  pub block : x.block ≡ b

-- x has the answer v to a read of block b under t
pub record HasR (b : ℕ) (x : Seat) (t v : ℕ) : Type 0 where
  pub stamp : x.ts ≡ t
  pub pos : 0 < t
  pub write : x.write ≡ false
  pub block : x.block ≡ b
  pub okay : x.okay ≡ true
  pub none : is_empty x.out ≡ true
  pub value : x.result ≡ v

-- what hosts and messages are as a flow
abbrev pub flow : (ℕ → Type 0) → ℕ → Hist → (ℕ → Seat) → List (Option Message) → Flow
flow S b h hs n = record {
  cur = λ t. (j : ℕ) × HasW b (hs j) t;
  act = λ t. (j : ℕ) × HasW b (hs j) t × ((hs j).okay ≡ true);
  ack = λ t c. Sent n (OfAck b t c) ⊎ ((j : ℕ) × HasW b (hs j) t × ((hs j).okay ≡ true) × (c among (hs j).out ≡ false) × S c);
  pre = λ c t e v. Sent n (OfPre b c t e v);
  rdm = λ c t. Sent n (OfRead b c t);
  comm = λ t. Sent n (OfCommit b t);
  abtm = λ t. Sent n (OfAbort b t);
  seen = λ t x. Sent n (OfValue b t x) ⊎ (((j : ℕ) × HasR b (hs j) t x) ⊎ Any (IsIt t x) h.reads);
}

-- no more of block b is in flight
pub record NetLe (b : ℕ) (n' n : List (Option Message)) : Type 0 where
  pub ack : (t c : ℕ) → Sent n' (OfAck b t c) → Sent n (OfAck b t c)
  pub pre : (c t e v : ℕ) → Sent n' (OfPre b c t e v) → Sent n (OfPre b c t e v)
  pub rdm : (c t : ℕ) → Sent n' (OfRead b c t) → Sent n (OfRead b c t)
  pub comm : (t : ℕ) → Sent n' (OfCommit b t) → Sent n (OfCommit b t)
  pub abtm : (t : ℕ) → Sent n' (OfAbort b t) → Sent n (OfAbort b t)
  pub value : (t x : ℕ) → Sent n' (OfValue b t x) → Sent n (OfValue b t x)

-- a message that says nothing of block b
pub record Foreign (b : ℕ) (m : Message) : Type 0 where
  pub ack : (t c : ℕ) → OfAck b t c m → ⊥
  pub pre : (c t e v : ℕ) → OfPre b c t e v m → ⊥
  pub rdm : (c t : ℕ) → OfRead b c t m → ⊥
  pub comm : (t : ℕ) → OfCommit b t m → ⊥
  pub abtm : (t : ℕ) → OfAbort b t m → ⊥
  pub value : (t x : ℕ) → OfValue b t x m → ⊥

-- fewer messages
pub net_less : (b : ℕ) (n' n : List (Option Message)) → ((P : Message → Type 0) → Sent n' P → Sent n P) → NetLe b n' n
net_less b n' n sub = record {
  ack = λ t c. sub (OfAck b t c);
  pre = λ c t e v. sub (OfPre b c t e v);
  rdm = λ c t. sub (OfRead b c t);
  comm = λ t. sub (OfCommit b t);
  abtm = λ t. sub (OfAbort b t);
  value = λ t x. sub (OfValue b t x);
}

-- more messages that say nothing of block b
pub net_foreign : (b : ℕ) (n' n : List (Option Message)) (D : Type 0) (f : D → Message)
    → ((P : Message → Type 0) → Sent n' P → Sent n P ⊎ ((d : D) × P (f d))) → ((d : D) → Foreign b (f d)) → NetLe b n' n
net_foreign b n' n D f adds none = record {
  ack = λ t c h. elim (adds (OfAck b t c) h) [ inl q ↦ q | inr q ↦ absurd ((none q.0).ack t c q.1) ];
  pre = λ c t e v h. elim (adds (OfPre b c t e v) h) [ inl q ↦ q | inr q ↦ absurd ((none q.0).pre c t e v q.1) ];
  rdm = λ c t h. elim (adds (OfRead b c t) h) [ inl q ↦ q | inr q ↦ absurd ((none q.0).rdm c t q.1) ];
  comm = λ t h. elim (adds (OfCommit b t) h) [ inl q ↦ q | inr q ↦ absurd ((none q.0).comm t q.1) ];
  abtm = λ t h. elim (adds (OfAbort b t) h) [ inl q ↦ q | inr q ↦ absurd ((none q.0).abtm t q.1) ];
  value = λ t x h. elim (adds (OfValue b t x) h) [ inl q ↦ q | inr q ↦ absurd ((none q.0).value t x q.1) ];
}

-- a refusal says nothing of any block
pub plain : (b : ℕ) (hd : Header) (x : Refusal) → Foreign b (message_of hd (Sort.Refusal x))
plain b hd x =
    let q = (made hd (Sort.Refusal x)).1 in
    record {
      ack = λ t c z. rw q at z.0;
      pre = λ c t e v z. rw q at z.0;
      rdm = λ c t z. rw q at z.0;
      comm = λ t z. rw q at z.0;
      abtm = λ t z. rw q at z.0;
      value = λ t x z. rw q at z.0;
    }

-- a message of another block says nothing of block b
pub far_message : (b : ℕ) (hd : Header) (s : Sort) → (hd.block ≡ b → ⊥) → Foreign b (message_of hd s)
far_message b hd s far = record {
  ack = λ t c z. no z.1;
  pre = λ c t e v z. no z.1;
  rdm = λ c t z. no z.1;
  comm = λ t z. no z.1;
  abtm = λ t z. no z.1;
  value = λ t x z. no z.1;
}
  where
    no : (header_of (message_of hd s)).block ≡ b → ⊥
    no z = far (sym (ap (λ (h : Header). h.block) (made hd s).0) ∙ z)

pub record Drawn (hs : ℕ → Seat) (t : ℕ) : Type 0 where
  pub by : ℕ
  pub clock : ℕ
  pub is_t : t ≡ (stamp clock by).0
  pub small : by < 8
  pub past : clock ≤ (hs by).clock

-- a host's timestamp is 0 or its last
abbrev pub Stamped : ℕ → Seat → Type 0
Stamped j x = (x.ts ≡ 0) ⊎ ((x.ts ≡ (stamp x.clock j).0) × (j < 8))

module _ (S : ℕ → Type 0) (b : ℕ) where
  pub record CInv (h : Hist) (ep : ℕ) (hs : ℕ → Seat) (ps : ℕ → Part) (n : List (Option Message)) : Type 0 where
    pub inv : Inv S (book h ep) (flow S b h hs n) (λ c. cell_of (ps c))
    pub vals : (t v : ℕ) → Any (IsIt t v) h.listed → h.value t ≡ v
    pub drawn : (t : ℕ) → (h.kind t ≡ idle) ⊎ Drawn hs t
    pub stamps : (j : ℕ) → Stamped j (hs j)
    pub mine : (j t : ℕ) → HasW b (hs j) t → h.value t ≡ (hs j).value
    pub sane : (c : ℕ) → is_normal (ps c).mode ≡ true → (ps c).lost ≡ false
    pub known : (j : ℕ) → (hs j).known ≤ ep

  -- a host's change that says nothing new
  pub record Quiet (n : List (Option Message)) (ep : ℕ) (x y : Seat) : Type 0 where
    pub w : (t : ℕ) → HasW b y t → HasW b x t
    pub okay : (t : ℕ) → HasW b y t → y.okay ≡ true → x.okay ≡ true
    pub out : (t : ℕ) → HasW b y t → y.okay ≡ true → (c : ℕ) → c among y.out ≡ false → (c among x.out ≡ false) ⊎ Sent n (OfAck b t c)
    pub r : (t v : ℕ) → HasR b y t v → HasR b x t v ⊎ Sent n (OfValue b t v)
    pub value : (t : ℕ) → HasW b y t → y.value ≡ x.value
    pub ts : (y.ts ≡ 0) ⊎ (y.ts ≡ x.ts)
    pub clock : y.clock ≡ x.clock
    pub known : y.known ≤ ep

  module _ (h : Hist) (ep : ℕ) (hs : ℕ → Seat) (ps : ℕ → Part) (n : List (Option Message)) (i : CInv h ep hs ps n) where
    -- such a change keeps the invariant
    pub quiet : (j : ℕ) (y : Seat) (n' : List (Option Message)) → NetLe b n' n → Quiet n ep (hs j) y → CInv h ep (at j y hs) ps n'
    quiet j y n' sub q = record {
      inv = shrink S (book h ep) (flow S b h hs n) (λ c. cell_of (ps c)) i.inv (flow S b h (at j y hs) n') (record {
        cur = λ t. wat t;
        act = λ t z. (at3 t z, (z.0, z.1));
        ack = λ t c. elim [
          | inl s ↦ inl (sub.ack t c s)
          | inr z ↦ elim (at_split (λ x. HasW b x t × (x.okay ≡ true) × (c among x.out ≡ false)) j y hs z.0 (z.1, z.2, z.3)) [
            | inl p ↦ elim (q.out t p.1.0 p.1.1 c p.1.2) [
              | inl e ↦
                  inr (j, q.w t p.1.0, q.okay t p.1.0 p.1.1, e, z.4)
              | inr e ↦ inl e
            ]
            | inr p ↦ inr (z.0, p.1.0, p.1.1, p.1.2, z.4)
          ]
        ];
        pre = λ c t e v. sub.pre c t e v;
        rdm = λ c t. sub.rdm c t;
        comm = λ t. sub.comm t;
        abtm = λ t. sub.abtm t;
        seen = λ t x. elim [
          | inl s ↦ inl (sub.value t x s)
          | inr z ↦ elim z [
            | inl k ↦ elim (at_split (λ y. HasR b y t x) j y hs k.0 k.1) [
              | inl p ↦
                  elim (q.r t x p.1) [ inl e ↦ inr (inl (j, e)) | inr e ↦ inl e ]
              | inr p ↦ inr (inl (k.0, p.1))
            ]
            | inr k ↦ inr (inr k)
          ]
        ];
      });
      vals = i.vals;
      drawn = λ t. elim (i.drawn t) [
        | inl e ↦ inl e
        | inr d ↦ inr (record {
          by = d.by;
          clock = d.clock;
          is_t = d.is_t;
          small = d.small;
          past = at_all (λ k x. d.clock ≤ (hs k).clock → d.clock ≤ x.clock) j y hs (λ e. (let z = q.clock in omega arith))
              (λ k _ e. e) d.by d.past;
        })
      ];
      stamps = at_all Stamped j y hs (elim q.ts [
        | inl e ↦ inl e
        | inr e ↦
            elim (i.stamps j) [ inl z ↦ inl (e ∙ z) | inr z ↦ inr (rw (e, q.clock) z.0, z.1) ]
      ]) (λ k _. i.stamps k);
      mine = at_all (λ k x. (t : ℕ) → HasW b x t → h.value t ≡ x.value) j y hs (λ t z. i.mine j t (q.w t z) ∙ sym (q.value t z))
          (λ k _. i.mine k);
      sane = i.sane;
      known = at_all (λ k x. x.known ≤ ep) j y hs q.known (λ k _. i.known k);
    }
      where
        wat : (t : ℕ) → (k : ℕ) × HasW b (at j y hs k) t → (k : ℕ) × HasW b (hs k) t
        wat t z = elim (at_split (λ x. HasW b x t) j y hs z.0 z.1) [ inl p ↦ (j, q.w t p.1) | inr p ↦ (z.0, p.1) ]

        at3 : (t : ℕ) → (k : ℕ) × HasW b (at j y hs k) t × ((at j y hs k).okay ≡ true) → (k : ℕ) × HasW b (hs k) t × ((hs k).okay ≡ true)
        at3 t z = elim (at_split (λ x. HasW b x t × (x.okay ≡ true)) j y hs z.0 (z.1, z.2)) [
          | inl p ↦
              (j, q.w t p.1.0, q.okay t p.1.0 p.1.1)
          | inr p ↦ (z.0, p.1.0, p.1.1)
        ]
