-- A run, and what was begun in it: told by the events and their answers alone
use Rattle.std.specs.Prelude.{ℕ, ◌+◌, ◌≡◌, Bool, true, false, not, ◌&&◌, List, [], ◌∷◌, ◌++◌, get_or, drop, eqb, if◌then◌else◌}
use Rattle.rules.specs.Types.{Timestamp, Action, Operation, Host, Table, Event, Outcome, Answer}
use Rattle.rules.specs.Built.{operation_of}
use Rattle.rules.specs.Events.{step}
use Rattle.rules.specs.Hosts.{queue_of}
use Rattle.rules.specs.Kinds.{is_reading}
use Rattle.rules.specs.Timestamps.{stamp, never, ◌is◌, ◌above◌}
use Rattle.rules.specs.Words.{each, none, fold}
use Rattle.rules.specs.Zero.{zero_operation}

-- ---- a run: any list of events, refused ones too, one after the other

-- the table that they leave
unfoldable pub after : Table → List Event → Table
after t [] = t
after t (e ∷ es) = after (step t e).table es

-- what a caller is told: an event, and of its answer the code and the outcome, but no table
pub record Told : Type 0 where
  pub event : Event
  pub code : ℕ
  pub outcome : Outcome

abbrev pub tell : Event → Answer → Told
tell e a = record { event = e; code = a.code; outcome = a.outcome }

unfoldable pub told : Table → List Event → List Told
told t [] = []
told t (e ∷ es) = tell e (step t e) ∷ told (step t e).table es

-- ---- what was begun

-- an operation that a host took in, and the how-manieth of this host's it is
pub record Taken : Type 0 where
  pub number : ℕ
  pub operation : Operation

-- an attempt: its timestamp, its host, and which of the host's operations it belongs to (a block, and what is done there)
pub record Begun : Type 0 where
  pub timestamp : Timestamp
  pub host : ℕ
  pub taken : Taken

-- what is known of one host: how many operations it took in, those that it still has, in order, and whether it is at an attempt at
-- the front one
pub record Account : Type 0 where
  pub count : ℕ
  pub queue : List Taken
  pub trying : Bool

-- what is known of all of them, and every attempt so far, in order
pub record Ledger : Type 0 where
  pub accounts : (host : ℕ) → Account
  pub begun : List Begun

abbrev pub no_taken : Taken
no_taken = record { number = 0; operation = zero_operation }

abbrev pub nothing : Ledger
nothing = record { accounts = λ host. record { count = 0; queue = []; trying = false }; begun = [] }

abbrev pub with_account : Ledger → (host : ℕ) → Account → Ledger
with_account l h x = record { accounts = λ host. if eqb host h then x else l.accounts host; begun = l.begun }

-- a granted event 1 or 2 takes an operation in
abbrev pub taken_in : Account → Operation → Account
taken_in x o = record {
  count = x.count + 1;
  queue = x.queue ++ record { number = x.count; operation = o } ∷ [];
  trying = x.trying;
}

-- a granted event 3 begins an attempt at the host's front operation
abbrev pub tried : Account → Account
tried x = record { count = x.count; queue = x.queue; trying = true }

abbrev pub attempt : Timestamp → (host : ℕ) → Account → Begun
attempt t h x = record { timestamp = t; host = h; taken = get_or x.queue 0 no_taken }

-- a granted event 6 ends it: the operation goes, answered as done or failed, or stays at the front, where the outcome is none
abbrev pub is_none : Outcome → Bool
is_none Outcome.None = true
is_none (Outcome.ReadDone h b v) = false
is_none (Outcome.WriteDone h b) = false
is_none (Outcome.ReadFailed h b) = false
is_none (Outcome.WriteFailed h b) = false

abbrev pub ended_with : Account → Outcome → Account
ended_with x o = record { count = x.count; queue = if is_none o then x.queue else drop 1 x.queue; trying = false }

-- "1 read (host, block); 2 write (host, block, value)"; "3 start (host, clock from 1, copy)": the timestamp is clock x 8 + host;
-- "6 finish (host)". Any other event, and a refused one, changes nothing here
abbrev pub noted : Ledger → Told → Ledger
noted l m =
    let kind = m.event.kind in
    let host = m.event.a in
    let b = m.event.b in
    let c = m.event.c in
    let x = l.accounts host in
    if not (eqb m.code 0) then l else
    if eqb kind 1 then with_account l host (taken_in x (operation_of b Action.Read)) else
    if eqb kind 2 then with_account l host (taken_in x (operation_of b (Action.Write c))) else
    if eqb kind 3 then record {
      accounts = (with_account l host (tried x)).accounts;
      begun = l.begun ++ attempt (stamp b host) host x ∷ [];
    } else
    if eqb kind 6 then with_account l host (ended_with x m.outcome) else
    l

unfoldable pub ledger : List Told → Ledger
ledger ms = fold noted nothing ms

-- every attempt that was begun, in order
abbrev pub begun : List Told → List Begun
begun ms = (ledger ms).begun

-- a host's last attempt
abbrev pub no_attempt : Begun
no_attempt = record { timestamp = never; host = 0; taken = no_taken }

unfoldable pub last_of : (host : ℕ) → List Begun → Begun
last_of h l = fold (λ last x. if eqb x.host h then x else last) no_attempt l

-- ---- the table agrees with it

-- a host of the table agrees with its account and its last attempt
pub record Agrees (host : ℕ) (x : Account) (last : Begun) (h : Host) : Type 0 where
  -- its queue holds the operations that it still has, in their order, and no others
  pub queue : h.queue ≡ queue_of (each (λ o. o.operation) x.queue)
  -- its current timestamp is its last attempt's while that has not ended, and 0 otherwise
  pub timestamp : h.attempt.timestamp ≡ (if x.trying then last.timestamp else never)
  -- and 0 only then: the attempt has a timestamp above 0; it is the host's own, at the front operation
  pub current : x.trying ≡ true → (last.timestamp above never ≡ true) × (last.host ≡ host) × (last.taken ≡ get_or x.queue 0 no_taken)

-- timestamps that are above 0 and all different
unfoldable pub distinct : List Timestamp → Bool
distinct [] = true
distinct (t ∷ ts) = t above never && none (λ u. u is t) ts && distinct ts

-- an outcome tells of an attempt: its host, its block, and whether it reads or writes; none tells of nothing
abbrev pub tells_of : Begun → Outcome → Bool
tells_of x Outcome.None = true
tells_of x (Outcome.ReadDone h b v) = eqb x.host h && eqb x.taken.operation.block b && is_reading x.taken.operation.action
tells_of x (Outcome.WriteDone h b) = eqb x.host h && eqb x.taken.operation.block b && not (is_reading x.taken.operation.action)
tells_of x (Outcome.ReadFailed h b) = eqb x.host h && eqb x.taken.operation.block b && is_reading x.taken.operation.action
tells_of x (Outcome.WriteFailed h b) = eqb x.host h && eqb x.taken.operation.block b && not (is_reading x.taken.operation.action)
