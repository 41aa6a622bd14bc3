-- Sessions in which a wrong store, or a wrong statement, would show: what is seen of each, and what must be
use Rattle.std.specs.Prelude.{ℕ, ◌%◌, true, false, not, List, [], ◌∷◌, ◌++◌, replicate, eqb, if◌then◌else◌}
use Rattle.one_copy.specs.Types.{Set, Creation, Event, Outcome}
use Rattle.one_copy.specs.Listed.{Write, listed, last_before}
use Rattle.rules.specs.Built.{creation_of}
use Rattle.rules.specs.Creation.{fresh}
use Rattle.rules.specs.Limits.{host_limit}
use Rattle.rules.specs.Runs.{Told, told, Ledger, nothing, noted, last_of, is_none}
use Rattle.rules.specs.Timestamps.{clock_of}
use Rattle.rules.specs.Words.{those, each}
use Rattle.rules.specs.Zero.{zero_set}

-- ---- what is seen of a session: of all events, and of one block

-- an entry of the list: the clock and the host that its timestamp is made of, and its value
pub record Entry : Type 0 where
  pub clock : ℕ
  pub host : ℕ
  pub value : ℕ

abbrev pub entry : (clock host value : ℕ) → Entry
entry clock host v = record { clock = clock; host = host; value = v }

abbrev pub entry_of : Write → Entry
entry_of w = entry (clock_of w.timestamp) (w.timestamp.0 % host_limit) w.value

pub record Seen : Type 0 where
  pub refusals : List ℕ  -- the codes of the refused events
  pub outcomes : List Outcome  -- the outcomes that are not none
  pub list : List Entry  -- the block's list
  pub plain : List ℕ  -- what one plain copy answers to each read of the block that was done

-- "the value of the last listed write before its last attempt's timestamp"
abbrev pub plainly : (block : ℕ) → List Write → Ledger → Outcome → List ℕ
plainly b all l (Outcome.ReadDone h d v) = if eqb d b then (last_before (last_of h l.begun).timestamp all).value ∷ [] else []
plainly b all l (Outcome.WriteDone h d) = []
plainly b all l (Outcome.ReadFailed h d) = []
plainly b all l (Outcome.WriteFailed h d) = []
plainly b all l Outcome.None = []

unfoldable pub plain_reads : (block : ℕ) → List Write → Ledger → List Told → List ℕ
plain_reads b all l [] = []
plain_reads b all l (m ∷ ms) = plainly b all l m.outcome ++ plain_reads b all (noted l m) ms

pub record Session : Type 0 where
  pub creation : Creation
  pub events : List Event
  pub block : ℕ
  pub expected : Seen

abbrev pub seen : Session → Seen
seen s =
    let ms = told (fresh s.creation) s.events in
    let all = listed s.block (fresh s.creation) s.events in
    record {
      refusals = those (λ code. not (eqb code 0)) (each (λ m. m.code) ms);
      outcomes = those (λ o. not (is_none o)) (each (λ m. m.outcome) ms);
      list = each entry_of all;
      plain = plain_reads s.block all nothing ms;
    }

-- ---- words for the sessions

-- two hosts, two chunks, blocks on both, age limit 100
abbrev on_both : Set
on_both = record { chunks = true ∷ true ∷ replicate 6 false }

abbrev pub one_block : Creation
one_block = creation_of 2 2 1 100 (on_both ∷ replicate 15 zero_set)

abbrev pub two_blocks : Creation
two_blocks = creation_of 2 2 2 100 (on_both ∷ on_both ∷ replicate 14 zero_set)

abbrev event : (kind a b c : ℕ) → Event
event kind a b c = record { kind = kind; a = a; b = b; c = c }

abbrev reads : (host block : ℕ) → Event
reads h b = event 1 h b 0

abbrev writes : (host block value : ℕ) → Event
writes h b v = event 2 h b v

abbrev starts : (host clock copy : ℕ) → Event
starts h clock copy = event 3 h clock copy

abbrev deliver : (place : ℕ) → Event
deliver p = event 4 p 0 0

abbrev finishes : (host : ℕ) → Event
finishes h = event 6 h 0 0

abbrev times_out : (host : ℕ) → Event
times_out h = event 7 h 0 0

abbrev refreshes : (host : ℕ) → Event
refreshes h = event 8 h 0 0

abbrev runs : (chunk block : ℕ) → Event
runs c b = event 9 c b 0

abbrev stops : (host : ℕ) → Event
stops h = event 10 h 0 0

abbrev fails : (chunk : ℕ) → Event
fails c = event 11 c 0 0

abbrev recovers : (chunk : ℕ) → Event
recovers c = event 12 c 0 0

abbrev leased : (chunk : ℕ) → Event
leased c = event 14 c 0 0

abbrev change : Event
change = event 15 0 0 0

-- ---- the sessions

-- document 01, "One session, whole": a run past the undecided write is refused, and the read gives 77
abbrev pub document : List Event
document =
    leased 0 ∷ leased 1 ∷ refreshes 0 ∷ writes 0 0 77 ∷ starts 0 5 0 ∷ deliver 0 ∷ deliver 1 ∷ deliver 0 ∷ deliver 1 ∷ finishes 0
    ∷ refreshes 1 ∷ reads 1 0 ∷ starts 1 6 1 ∷ deliver 2 ∷ runs 1 0 ∷ deliver 1 ∷ runs 1 0 ∷ runs 1 0 ∷ deliver 1 ∷ finishes 1 ∷ []

-- chunk 1 fails while the write is prepared on both; the write is answered as done, the chunk recovers, asks in vain for its lease,
-- and an epoch change settles, which commits the write once more; then the other host reads from the chunk that had failed
abbrev pub fault : List Event
fault =
    leased 0 ∷ leased 1 ∷ refreshes 0 ∷ writes 0 0 77 ∷ starts 0 5 0 ∷ deliver 0 ∷ deliver 1 ∷ deliver 0 ∷ deliver 1 ∷ fails 1
    ∷ finishes 0 ∷ recovers 1 ∷ leased 1 ∷ deliver 0 ∷ deliver 1 ∷ change ∷ refreshes 1 ∷ reads 1 0 ∷ starts 1 6 1 ∷ deliver 0
    ∷ runs 1 0 ∷ deliver 0 ∷ finishes 1 ∷ []

-- a read passes at chunk 1 before the write is prepared there; the chunk fails, and the epoch change must not commit the write, which
-- chunk 0 holds: the read was answered without it. A second read says the same
abbrev pub passed : List Event
passed =
    leased 0 ∷ leased 1 ∷ refreshes 0 ∷ refreshes 1 ∷ writes 0 0 77 ∷ starts 0 5 0 ∷ deliver 0 ∷ reads 1 0 ∷ starts 1 6 1 ∷ deliver 2
    ∷ runs 1 0 ∷ deliver 2 ∷ finishes 1 ∷ fails 1 ∷ recovers 1 ∷ change ∷ refreshes 1 ∷ reads 1 0 ∷ starts 1 7 0 ∷ deliver 2 ∷ runs 0 0
    ∷ deliver 2 ∷ finishes 1 ∷ []

-- a read with a timestamp between those of two writes waits until both are done: it gives the first
abbrev pub between : List Event
between =
    leased 0 ∷ leased 1 ∷ refreshes 0 ∷ refreshes 1 ∷ writes 0 0 5 ∷ starts 0 5 0 ∷ deliver 0 ∷ deliver 1 ∷ deliver 0 ∷ deliver 1
    ∷ finishes 0 ∷ deliver 0 ∷ deliver 1 ∷ runs 0 0 ∷ runs 1 0 ∷ reads 1 0 ∷ starts 1 6 1 ∷ deliver 0 ∷ writes 0 0 9 ∷ starts 0 7 0
    ∷ deliver 0 ∷ deliver 1 ∷ deliver 0 ∷ deliver 1 ∷ finishes 0 ∷ runs 1 0 ∷ deliver 2 ∷ finishes 1 ∷ []

-- the host of a write that is prepared on both chunks stops and never finishes it; the epoch change commits it
abbrev pub unfinished : List Event
unfinished =
    leased 0 ∷ leased 1 ∷ refreshes 0 ∷ writes 0 0 77 ∷ starts 0 5 0 ∷ deliver 0 ∷ deliver 1 ∷ stops 0 ∷ change ∷ refreshes 1
    ∷ reads 1 0 ∷ starts 1 6 1 ∷ deliver 2 ∷ runs 1 0 ∷ deliver 2 ∷ finishes 1 ∷ []

-- a write that timed out goes back to the front; the epoch change commits that attempt all the same. It starts again, not with the
-- number drawn before but with a new one, and is done under it: one write, listed under two attempts
abbrev pub twice : List Event
twice =
    leased 0 ∷ leased 1 ∷ refreshes 0 ∷ writes 0 0 77 ∷ starts 0 5 0 ∷ deliver 0 ∷ deliver 1 ∷ times_out 0 ∷ finishes 0 ∷ change
    ∷ starts 0 5 0 ∷ refreshes 0 ∷ starts 0 6 0 ∷ deliver 4 ∷ deliver 5 ∷ deliver 4 ∷ deliver 5 ∷ finishes 0 ∷ []

-- a write that timed out before anybody saw it is not listed under that attempt, only under the later one
abbrev pub retried : List Event
retried =
    leased 0 ∷ leased 1 ∷ refreshes 0 ∷ writes 0 0 77 ∷ starts 0 5 0 ∷ times_out 0 ∷ finishes 0 ∷ starts 0 6 0 ∷ deliver 4 ∷ deliver 5
    ∷ deliver 4 ∷ deliver 5 ∷ finishes 0 ∷ []

-- two hosts write to two blocks at one clock, and each reads what the other wrote
abbrev pub blocks : List Event
blocks =
    leased 0 ∷ leased 1 ∷ refreshes 0 ∷ refreshes 1 ∷ writes 0 0 5 ∷ starts 0 5 0 ∷ writes 1 1 9 ∷ starts 1 5 0 ∷ deliver 0 ∷ deliver 1
    ∷ deliver 2 ∷ deliver 3 ∷ deliver 0 ∷ deliver 1 ∷ deliver 2 ∷ deliver 3 ∷ finishes 0 ∷ finishes 1 ∷ deliver 0 ∷ deliver 1 ∷ deliver 2
    ∷ deliver 3 ∷ runs 1 0 ∷ runs 1 1 ∷ reads 0 1 ∷ starts 0 6 1 ∷ deliver 0 ∷ runs 1 1 ∷ deliver 0 ∷ finishes 0 ∷ reads 1 0 ∷ starts 1 6 1
    ∷ deliver 0 ∷ runs 1 0 ∷ deliver 0 ∷ finishes 1 ∷ []

-- ---- the table: a session, a block of it, and what must be seen

infixr 2 ◌on◌at◌refuses◌answers◌lists◌plainly◌⨾◌
abbrev ◌on◌at◌refuses◌answers◌lists◌plainly◌⨾◌ : List Event → Creation → (block : ℕ) → List ℕ → List Outcome → List Entry → List ℕ → List Session
    → List Session
es on k at b refuses codes answers os lists ws plainly vs ⨾ more =
    record { creation = k; events = es; block = b; expected = record { refusals = codes; outcomes = os; list = ws; plain = vs } } ∷ more

abbrev crossed : List Outcome
crossed = Outcome.WriteDone 0 0 ∷ Outcome.WriteDone 1 1 ∷ Outcome.ReadDone 0 1 9 ∷ Outcome.ReadDone 1 0 5 ∷ []

abbrev pub sessions : List Session
sessions =
    document on one_block at 0 refuses 2 ∷ [] answers Outcome.WriteDone 0 0 ∷ Outcome.ReadDone 1 0 77 ∷ []
    lists entry 5 0 77 ∷ [] plainly 77 ∷ [] ⨾
    fault on one_block at 0 refuses 2 ∷ [] answers Outcome.WriteDone 0 0 ∷ Outcome.ReadDone 1 0 77 ∷ []
    lists entry 5 0 77 ∷ [] plainly 77 ∷ [] ⨾
    passed on one_block at 0 refuses [] answers Outcome.ReadDone 1 0 0 ∷ Outcome.ReadDone 1 0 0 ∷ [] lists [] plainly 0 ∷ 0 ∷ [] ⨾
    between on one_block at 0 refuses [] answers Outcome.WriteDone 0 0 ∷ Outcome.WriteDone 0 0 ∷ Outcome.ReadDone 1 0 5 ∷ []
    lists entry 5 0 5 ∷ entry 7 0 9 ∷ [] plainly 5 ∷ [] ⨾
    unfinished on one_block at 0 refuses [] answers Outcome.ReadDone 1 0 77 ∷ [] lists entry 5 0 77 ∷ [] plainly 77 ∷ [] ⨾
    twice on one_block at 0 refuses 3 ∷ [] answers Outcome.WriteDone 0 0 ∷ []
    lists entry 5 0 77 ∷ entry 6 0 77 ∷ [] plainly [] ⨾
    retried on one_block at 0 refuses [] answers Outcome.WriteDone 0 0 ∷ [] lists entry 6 0 77 ∷ [] plainly [] ⨾
    blocks on two_blocks at 0 refuses [] answers crossed lists entry 5 0 5 ∷ [] plainly 5 ∷ [] ⨾
    blocks on two_blocks at 1 refuses [] answers crossed lists entry 5 1 9 ∷ [] plainly 9 ∷ [] ⨾
    []
