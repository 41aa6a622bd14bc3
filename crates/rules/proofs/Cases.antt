-- Document 01, "Proved cases", P1 to P12: one table. "Unless said, last read and last write are 0, value 0, no chunk lost"
use Rattle.std.specs.Prelude.{if◌then◌else◌, None, Option, Some}
use Prim.Native.Nat.{ℕ}
use mathlib.Core.Path.{◌≡◌, refl}
use mathlib.Core.Bool.{Bool, true, false}
use mathlib.Core.List.{List, [], ◌∷◌}
use lib.ListN.{drop, replicate}
use lib.Dec.{eqb}
use Rattle.rules.specs.Types.{Timestamp, Set, Kind, Entry, Record, State, Action, Message, Request, Refusal, Sort, Table, Event, Answer}
use Rattle.rules.specs.Built.{creation_of, operation_of, no_blocks}
use Rattle.rules.specs.Chunks.{at_chunk, arrived}
use Rattle.rules.specs.Codes.{code_of}
use Rattle.rules.specs.Creation.{fresh, first_epoch, is_creation}
use Rattle.rules.specs.Events.{all_lost, step, rows, ranges, rule_of, kind_of}
use Rattle.rules.specs.Formed.{well_formed}
use Rattle.rules.specs.Hosts.{appended, refreshed, with_clock, queue_of}
use Rattle.rules.specs.Messages.{headed, message_of, asking}
use Rattle.rules.specs.Network.{sent, free_places, how_many, sent_to_each, replied}
use Rattle.rules.specs.Settlement.{W, beside_w, agreed, committed, writes, commits, latest, written_with, settled_record, settled}
use Rattle.rules.specs.Tables.{host_of, record_of, slot_of, with_host, with_chunk, with_record, with_places}
use Rattle.rules.specs.Waiting.{holding, insert, inserted}
use Rattle.rules.specs.Words.{those, each, joined, every, some, place, fold, from}
use Rattle.rules.specs.Zero.{zero_set}

-- ---- the store: one host, chunks A and B, one block on both, age limit 100

abbrev on_both : Set
on_both = record { chunks = true ∷ true ∷ replicate 6 false }

abbrev store : Table
store = fresh (creation_of 1 2 1 100 (on_both ∷ replicate 15 zero_set))

abbrev stamped : ℕ → Timestamp
stamped t = record { 0 = t }

abbrev entry : (timestamp : ℕ) → Kind → Entry
entry t kind = record { timestamp = stamped t; sender = 0; epoch = first_epoch; kind = kind }

abbrev copy : (value read write : ℕ) → List Entry → Record
copy v r w l = record { value = v; read = stamped r; write = stamped w; waiting = holding l }

-- chunk A or B with its lease or lost, and its copy
pub record Side : Type 0 where
  pub lost : Bool
  pub copy : Record

abbrev normal : Record → Side
normal r = record { lost = false; copy = r }

abbrev lost : (read : ℕ) → Side
lost r = record { lost = true; copy = copy 0 r 0 [] }

abbrev empty : Side
empty = normal (copy 0 0 0 [])

-- "holds 40" and the like
abbrev holds : (timestamp : ℕ) → Kind → Side
holds t kind = normal (copy 0 0 0 (entry t kind ∷ []))

abbrev with_side : Table → (chunk : ℕ) → Side → Table
with_side t c s =
    with_record (with_chunk t c (record { state = State.Normal; lost = s.lost; epoch = first_epoch; reconcile = no_blocks })) c 0 s.copy

abbrev event : (kind a b c : ℕ) → Event
event kind a b c = record { kind = kind; a = a; b = b; c = c }

-- ---- what is seen of an answer: a code, the copies of A and B, or how many wait at A and the reply

pub data Seen : Type 0 where
  code : ℕ → Seen
  copies : (a b : Record) → Seen
  arrival : (waiting : ℕ) → Option Message → Seen

abbrev code_in : Answer → Seen
code_in a = code a.code

abbrev copies_in : Answer → Seen
copies_in a = if eqb a.code 0 then copies (record_of a.table 0 0) (record_of a.table 1 0) else code_in a

abbrev arrival_in : Answer → Seen
arrival_in a = arrival (record_of a.table 0 0).waiting.count (slot_of a.table.places 0)

infix 4 value◌write◌read◌
abbrev value◌write◌read◌ : ℕ → ℕ → ℕ → Seen
value v write w read r = copies (copy v r w []) (copy v r w [])

-- what host 0 sends of block 0 to A under timestamp 40, and the replies
abbrev read40 : Message
read40 = asking (headed 0 0 0 (stamped 40)) first_epoch Request.Read

abbrev prewrite40 : Message
prewrite40 = asking (headed 0 0 0 (stamped 40)) first_epoch (Request.Prewrite 7)

abbrev waits : (waiting : ℕ) → Seen
waits n = arrival n None

abbrev replies : (waiting : ℕ) → Sort → Seen
replies n s = arrival n (Some (message_of (headed 0 0 0 (stamped 40)) s))

-- ---- the rows

pub record Case : Type 0 where
  pub table : Table
  pub event : Event
  pub look : Answer → Seen
  pub expected : Seen

abbrev pub seen : Case → Seen
seen k = k.look (step k.table k.event)

infixr 2 settling◌and◌gives◌⨾◌ ◌arriving_at◌gives◌⨾◌ overdue_at◌gives◌⨾◌ starting_at◌gives◌⨾◌
-- P1 to P7: an epoch change with A and B as said
abbrev settling◌and◌gives◌⨾◌ : Side → Side → Seen → List Case → List Case
settling a and b gives x ⨾ more =
    record { table = with_side (with_side store 0 a) 1 b; event = event 15 0 0 0; look = copies_in; expected = x } ∷ more

-- P8 to P10: the message is delivered to A with its copy as said
abbrev ◌arriving_at◌gives◌⨾◌ : Message → Record → Seen → List Case → List Case
m arriving_at r gives x ⨾ more =
    let t = with_side store 0 (normal r) in
    record { table = with_places t (sent t.places m); event = event 4 0 0 0; look = arrival_in; expected = x } ∷ more

-- P11: "age limit 100, head clock 5"
abbrev overdue_at◌gives◌⨾◌ : (now : ℕ) → Seen → List Case → List Case
overdue_at now gives x ⨾ more =
    record { table = with_side store 0 (holds 40 (Kind.Undecided 7)); event = event 16 0 0 now; look = code_in; expected = x } ∷ more

-- P12: "last clock drawn 5"
abbrev starting_at◌gives◌⨾◌ : (clock : ℕ) → Seen → List Case → List Case
starting_at clock gives x ⨾ more =
    let h = with_clock (refreshed (appended (host_of store 0) (operation_of 0 Action.Read)) first_epoch) 5 in
    record { table = with_host store 0 h; event = event 3 0 clock 0; look = code_in; expected = x } ∷ more

abbrev end : List Case
end = []

abbrev eight : List Entry
eight = replicate 8 (entry 8 Kind.Read)

abbrev pub cases : List Case
cases =
    {- P1 -}
    settling holds 40 (Kind.Undecided 7) and holds 40 (Kind.Undecided 7) gives value 7 write 40 read 0 ⨾
    {- P2 -}
    settling holds 40 (Kind.Undecided 7) and empty gives value 0 write 0 read 0 ⨾
    {- P3 -}
    settling holds 40 (Kind.Undecided 7) and lost 0 gives value 7 write 40 read 0 ⨾
    {- P4 -}
    settling holds 40 (Kind.Undecided 7) and lost 49 gives value 0 write 0 read 49 ⨾
    {- P5 -}
    settling holds 40 (Kind.Undecided 7) and normal (copy 9 0 96 []) gives value 9 write 96 read 0 ⨾
    {- P6 -}
    settling holds 40 (Kind.Aborted 7) and holds 40 (Kind.Undecided 7) gives value 0 write 0 read 0 ⨾
    {- P7 -}
    settling lost 0 and lost 0 gives code 6 ⨾
    {- P8 -}
    read40 arriving_at copy 0 0 40 [] gives waits 1 ⨾
    read40 arriving_at copy 0 0 41 [] gives replies 0 (Sort.Refusal Refusal.OutOfOrder) ⨾
    {- P9 -}
    prewrite40 arriving_at copy 0 41 0 [] gives replies 0 (Sort.Refusal Refusal.OutOfOrder) ⨾
    prewrite40 arriving_at copy 0 39 0 [] gives replies 1 Sort.PrewriteReply ⨾
    {- P10 -}
    prewrite40 arriving_at copy 0 0 0 eight gives replies 8 (Sort.Refusal Refusal.Busy) ⨾
    prewrite40 arriving_at copy 0 0 0 (drop 1 eight) gives replies 8 Sort.PrewriteReply ⨾
    {- P11 -}
    overdue_at 105 gives code 2 ⨾
    overdue_at 106 gives code 0 ⨾
    overdue_at 3 gives code 2 ⨾
    {- P12 -}
    starting_at 5 gives code 3 ⨾
    starting_at 6 gives code 0 ⨾
    end

-- what is seen in each case is what document 01 says
pub cases_hold : each seen cases ≡ each (λ (k : Case). k.expected) cases
unfolding step rows ranges rule_of kind_of code_of well_formed is_creation fresh at_chunk arrived appended queue_of free_places how_many sent sent_to_each replied W beside_w agreed committed writes commits latest written_with settled_record settled all_lost holding insert inserted those each joined every some place fold from
cases_hold = refl
