-- One block's view of the store, and what every sequence keeps. No table appears here
use Prim.Native.Nat.{ℕ, ◌≤◌, ◌<◌}
use mathlib.Core.Path.{◌≡◌, subst}
use mathlib.Core.Logic.{◌⊎◌}
use mathlib.Core.Bool.{Bool, true, false}
use native.Mathlib.Omega.{arith}

-- what was begun under a timestamp: nothing, a read or a write
pub data Began : Type 0 where
  idle read_k write_k : Began

-- a waiting write is undecided, committed or aborted
pub data Mark : Type 0 where
  und cmt abt : Mark

-- a waiting write that is not aborted
abbrev pub IsLive : Mark → Type 0
IsLive und = Unit {0}
IsLive cmt = Unit {0}
IsLive abt = ⊥

-- what one chunk has of the block
pub record Cell : Type 1 where
  pub wr : ℕ  -- last write
  pub rd : ℕ  -- last read
  pub val : ℕ  -- value
  pub lost : Bool
  pub w : ℕ → ℕ → Mark → Type 0  -- (t, v, m): a write that waits
  pub r : ℕ → Type 0  -- t: a read that waits

-- the block's era and the history: what was begun under each timestamp (its kind, value, era), what is listed, and what is void.
-- In the base the era is the store's epoch and nothing is void; a salvage would begin an era and make void what it leaves out
pub record Book : Type 1 where
  pub era : ℕ
  pub kind : ℕ → Began
  pub value : ℕ → ℕ
  pub ae : ℕ → ℕ  -- the attempt's era
  pub L : ℕ → Type 0  -- listed
  pub Void : ℕ → Type 0

-- what hosts and the network hold; any of it may go at any time
pub record Flow : Type 1 where
  pub cur : ℕ → Type 0  -- t is a host's current write
  pub act : ℕ → Type 0  -- and it is okay so far
  pub ack : ℕ → ℕ → Type 0  -- (t, c): a prewrite reply is in flight, or c is no longer outstanding
  pub pre : ℕ → ℕ → ℕ → ℕ → Type 0  -- (c, t, epoch, value): a prewrite in flight
  pub rdm : ℕ → ℕ → Type 0  -- (c, t): a read in flight
  pub comm : ℕ → Type 0  -- a commit in flight
  pub abtm : ℕ → Type 0  -- an abort in flight
  pub seen : ℕ → ℕ → Type 0  -- (t, x): a read's answer, in flight, at the host, or given to the user

-- t waits and is not aborted
abbrev pub Live : Cell → ℕ → Type 0
Live k t = (v : ℕ) × (m : Mark) × k.w t v m × IsLive m

-- what a chunk that has answered a prewrite keeps until the write is decided
abbrev pub Promise : Cell → ℕ → Type 0
Promise k t = Live k t ⊎ ((k.lost ≡ true) × (k.rd < t) × (k.wr ≤ t))

-- x is what timestamp t wrote; 0 wrote 0
abbrev pub Wrote : Book → ℕ → ℕ → Type 0
Wrote B t x = ((t ≡ 0) × (x ≡ 0)) ⊎ (B.L t × (B.value t ≡ x))

-- x is the value of the last listed write below t, or 0
pub record Last (B : Book) (t x : ℕ) : Type 0 where
  pub top : ℕ
  pub below : top < t
  pub wrote : Wrote B top x
  pub most : (u : ℕ) → B.L u → u < t → u ≤ top

-- what waits as a write: an attempt of this era with its value, not below the last write, strictly above the last read
pub record Waits (B : Book) (k : Cell) (t v : ℕ) : Type 0 where
  pub is_w : B.kind t ≡ write_k
  pub vals : B.value t ≡ v
  pub now : B.ae t ≡ B.era
  pub over_w : k.wr ≤ t
  pub over_r : k.rd < t

-- a good entry of a waiting list
pub record EntryOk (B : Book) (F : Flow) (k : Cell) (t v : ℕ) (m : Mark) : Type 0 where
  pub fits : Waits B k t v
  pub done : m ≡ cmt → B.L t
  pub dead : m ≡ abt → (F.act t → ⊥) × (B.L t → ⊥)
  pub kept : k.lost ≡ false

-- marks and kinds differ
pub cmt≢abt : cmt ≡ abt → ⊥
cmt≢abt e = subst IsLive e tt

pub und≢abt : und ≡ abt → ⊥
und≢abt e = subst IsLive e tt

pub und≢cmt : und ≡ cmt → ⊥
und≢cmt e = let z : ◌≡◌ {A = ℕ} 0 1 = cc in omega arith

pub read_k≢write_k : read_k ≡ write_k → ⊥
read_k≢write_k e = let z : ◌≡◌ {A = ℕ} 0 1 = cc in omega arith

pub idle≢read_k : idle ≡ read_k → ⊥
idle≢read_k e = let z : ◌≡◌ {A = ℕ} 0 1 = cc in omega arith

pub idle≢write_k : idle ≡ write_k → ⊥
idle≢write_k e = let z : ◌≡◌ {A = ℕ} 0 1 = cc in omega arith

-- what holds of each copy
pub record CellOk (B : Book) (F : Flow) (c : ℕ) (k : Cell) : Type 0 where
  -- last write and value are 0 and 0, or a listed write with its value
  pub held : Wrote B k.wr k.val
  -- the last read is 0 or a read attempt's timestamp
  pub read_top : (k.rd ≡ 0) ⊎ (B.kind k.rd ≡ read_k)
  pub waits : (t v : ℕ) (m : Mark) → k.w t v m → Waits B k t v
  -- what waits as a read is one
  pub reads : (t : ℕ) → k.r t → B.kind t ≡ read_k
  -- a committed entry is listed
  pub done : (t v : ℕ) → k.w t v cmt → B.L t
  -- an aborted entry is neither okay at its host nor listed
  pub dead : (t v : ℕ) → k.w t v abt → (F.act t → ⊥) × (B.L t → ⊥)
  -- not lost: a listed write is not above the last write, or waits and is not aborted
  pub live : k.lost ≡ false → (t : ℕ) → B.L t → (t ≤ k.wr) ⊎ Live k t
  -- lost: a listed write is not above the last write, or above the last read
  pub gone : k.lost ≡ true → (t : ℕ) → B.L t → (t ≤ k.wr) ⊎ (k.rd < t)
  -- lost: no write waits
  pub empty : k.lost ≡ true → (t v : ℕ) (m : Mark) → k.w t v m → ⊥
  -- a write of this era that is okay at its host and that the chunk has answered
  pub promise : (t : ℕ) → F.act t → F.ack t c → B.ae t ≡ B.era → Promise k t

-- a prewrite has its attempt's value and epoch
pub record Pre (B : Book) (t e v : ℕ) : Type 0 where
  pub is_w : B.kind t ≡ write_k
  pub vals : B.value t ≡ v
  pub known : B.ae t ≡ e

module _ (S : ℕ → Type 0) where
  -- what holds of hosts, messages and the history
  pub record GlobOk (B : Book) (F : Flow) : Type 0 where
    -- whatever carries a timestamp is an attempt of its kind; nothing was begun under 0
    pub zero_k : B.kind 0 ≡ idle
    pub list_k : (t : ℕ) → B.L t → B.kind t ≡ write_k
    pub cur_k : (t : ℕ) → F.cur t → B.kind t ≡ write_k
    pub act_cur : (t : ℕ) → F.act t → F.cur t
    pub ack_k : (t c : ℕ) → F.ack t c → B.kind t ≡ write_k
    pub abt_k : (t : ℕ) → F.abtm t → B.kind t ≡ write_k
    pub pre_k : (c t e v : ℕ) → F.pre c t e v → Pre B t e v
    pub rdm_k : (c t : ℕ) → F.rdm c t → (B.kind t ≡ read_k) × S c
    -- no attempt is of a later era
    pub past : (t : ℕ) → B.kind t ≡ write_k → B.ae t ≤ B.era
    -- a current write that is listed was listed by an epoch change
    pub own : (t : ℕ) → F.cur t → B.L t → B.ae t < B.era
    -- an aborted write is no host's, and if it is listed an epoch change did it
    pub dead : (t : ℕ) → F.abtm t → (F.cur t → ⊥) × (B.L t → B.ae t < B.era)
    -- a commit's write is listed
    pub told : (t : ℕ) → F.comm t → B.L t ⊎ B.Void t
    -- a write of an older era, okay and answered by all copies, is listed
    pub old : (t : ℕ) → F.act t → B.ae t < B.era → ((c : ℕ) → S c → F.ack t c) → B.L t ⊎ B.Void t
    -- what is void is of an older era
    pub stale : (t : ℕ) → B.Void t → B.ae t < B.era

  -- a read t that got x: some copy's last read guards it, and x is the value of the last listed write below it
  pub record Seen (B : Book) (cell : ℕ → Cell) (t x : ℕ) : Type 0 where
    pub is_r : B.kind t ≡ read_k
    pub guard : ℕ
    pub copy : S guard
    pub over : t ≤ (cell guard).rd
    pub last : Last B t x

  -- the invariant
  pub record Inv (B : Book) (F : Flow) (cell : ℕ → Cell) : Type 0 where
    pub glob : GlobOk B F
    pub cells : (c : ℕ) → S c → CellOk B F c (cell c)
    pub seen : (t x : ℕ) → F.seen t x → Seen B cell t x
    -- a read waits at a copy
    pub home : (c t : ℕ) → (cell c).r t → S c
