-- A block's list: the writes that were committed, by timestamp
use Rattle.std.specs.Prelude.{ℕ, Bool, true, false, not, ◌&&◌, List, [], ◌∷◌, ◌++◌, eqb, if◌then◌else◌}
use Rattle.one_copy.specs.Types.{Timestamp, Record, Action, Host, Table, Event, Answer}
use Rattle.rules.specs.Events.{copies_of, step}
use Rattle.rules.specs.Hosts.{front}
use Rattle.rules.specs.Runs.{Begun}
use Rattle.rules.specs.Settlement.{commits, written_with}
use Rattle.rules.specs.Tables.{host_of}
use Rattle.rules.specs.Timestamps.{never, ◌is◌, ◌above◌, ◌below◌}
use Rattle.rules.specs.Words.{those, each, every, fold}

-- ---- an entry

-- a write: its timestamp and its value
pub record Write : Type 0 where
  pub timestamp : Timestamp
  pub value : ℕ

abbrev pub write : Timestamp → ℕ → Write
write u v = record { timestamp = u; value = v }

-- what an operation under a timestamp writes; a read writes nothing
abbrev pub write_of : Timestamp → Action → List Write
write_of u Action.Read = []
write_of u (Action.Write v) = write u v ∷ []

-- the write that a copy holds
abbrev pub held_by : Record → Write
held_by r = write r.write r.value

-- ---- what one event commits: it finds table t and is answered with a

-- "its host .. committed": a granted finish of a write of the block that finds it okay, and so sends commits
abbrev pub by_host : (block : ℕ) → Host → List Write
by_host b h = if h.attempt.okay && eqb (front h).block b then write_of h.attempt.timestamp (front h).action else []

-- ".. or an epoch change committed": every write that settling the block's copies commits, not only the latest
abbrev pub by_change : (block : ℕ) → Table → List Write
by_change b t = let copies = copies_of t b in each (λ u. write u (written_with copies u)) (commits copies)

-- "6 finish (host)", "15 epoch change"; any other event, and a refused one, commits nothing
abbrev pub committed_at : (block : ℕ) → Table → Event → Answer → List Write
committed_at b t e a =
    if not (eqb a.code 0) then [] else
    if eqb e.kind 6 then by_host b (host_of t e.a) else
    if eqb e.kind 15 then by_change b t else
    []

-- ---- "list by timestamp every write attempt that its host or an epoch change committed anywhere in the sequence"

-- in the order of the events; a write may be committed more than once
unfoldable pub committed : (block : ℕ) → Table → List Event → List Write
committed b t [] = []
committed b t (e ∷ es) = let a = step t e in committed_at b t e a ++ committed b a.table es

-- a write takes its place by timestamp; one that has its place already is not entered again
unfoldable pub entered : Write → List Write → List Write
entered w [] = w ∷ []
entered w (x ∷ l) =
    if w.timestamp is x.timestamp then x ∷ l else
    if w.timestamp below x.timestamp then w ∷ x ∷ l else
    x ∷ entered w l

abbrev pub listed : (block : ℕ) → Table → List Event → List Write
listed b t es = fold (λ l w. entered w l) [] (committed b t es)

-- ---- reading a list

-- each timestamp is below the next
unfoldable pub rising : List Write → Bool
rising [] = true
rising (w ∷ l) = every (λ x. w.timestamp below x.timestamp) l && rising l

-- the write with the greatest timestamp; the value 0 under "never" where there is none
abbrev pub later_write : Write → Write → Write
later_write w x = if x.timestamp above w.timestamp then x else w

abbrev pub last : List Write → Write
last l = fold later_write (write never 0) l

-- "the last listed write before": what one plain copy would hold just before the timestamp
abbrev pub last_before : Timestamp → List Write → Write
last_before u l = last (those (λ w. w.timestamp below u) l)

-- ---- a listed write is an attempt

abbrev pub writes : (value : ℕ) → Action → Bool
writes v Action.Read = false
writes v (Action.Write x) = eqb x v

-- the attempt was begun to write this to the block
abbrev pub is_attempt : (block : ℕ) → Write → Begun → Bool
is_attempt b w x =
    x.timestamp is w.timestamp && eqb x.taken.operation.block b && writes w.value x.taken.operation.action
