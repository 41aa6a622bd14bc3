-- Demand 3: the mirrors answer as one plain copy
use Rattle.std.specs.Prelude.{ℕ, ◌≡◌, true, List, [], ◌∷◌, ◌++◌}
use Rattle.one_copy.specs.Types.{Creation, Table, Event, Outcome, Answer}
use Rattle.rules.specs.Creation.{fresh}
use Rattle.rules.specs.Events.{step}
use Rattle.rules.specs.Runs.{after, told, Begun, begun, last_of, distinct, tells_of}
use Rattle.rules.specs.Tables.{is_chunk, set_of, record_of}
use Rattle.rules.specs.Words.{each, every, some}
use Rattle.rules.specs.Zero.{◌among◌}
use Rattle.one_copy.specs.Listed.{Write, held_by, listed, rising, last, last_before, is_attempt}

-- For block b of a fresh store with creation k, whatever the sequence of events: es come first, then e, then those that are later
module _ (k : Creation) (b : ℕ) where
  -- the table that e finds, and the answer to e
  abbrev pub at : List Event → Table
  at es = after (fresh k) es

  abbrev pub answer : List Event → Event → Answer
  answer es e = step (at es) e

  -- the block's list of a whole sequence
  abbrev pub list : List Event → List Write
  list es = listed b (fresh k) es

  -- the attempts that a sequence began, told by its events and their answers; a host's last one
  abbrev pub attempts : List Event → List Begun
  attempts es = begun (told (fresh k) es)

  abbrev pub last_attempt : List Event → (host : ℕ) → Begun
  last_attempt es h = last_of h (attempts es)

  pub record OneCopy : Type 0 where
    -- "list by timestamp": strictly rising, so an attempt is listed once
    pub by_timestamp : (es : List Event) → rising (list es) ≡ true
    -- nothing out of thin air: every listed write is an attempt that was begun for this block, with the value that its write event handed in
    pub from_events : (es : List Event) → every (λ w. some (is_attempt b w) (attempts es)) (list es) ≡ true
    -- the timestamps of all attempts, of all hosts and blocks, reads and writes, are above 0 and differ
    pub apart : (es : List Event) → distinct (each (λ x. x.timestamp) (attempts es)) ≡ true
    -- an answer is about its host's last attempt: about its block, and what it does there
    pub about : (es : List Event) (e : Event) → tells_of (last_attempt es e.a) (answer es e).outcome ≡ true
    -- "Every read answered as done carries the value of the last listed write before its last attempt's timestamp, or zero"
    pub reads : (es : List Event) (e : Event) (later : List Event) (h v : ℕ) → (answer es e).outcome ≡ Outcome.ReadDone h b v
        → v ≡ (last_before (last_attempt es h).timestamp (list (es ++ e ∷ later))).value
    -- "Every write answered as done is listed under its last attempt's timestamp", with the value handed in
    pub writes : (es : List Event) (e : Event) (later : List Event) (h : ℕ) → (answer es e).outcome ≡ Outcome.WriteDone h b
        → some (λ w. is_attempt b w (last_attempt es h)) (list (es ++ e ∷ later)) ≡ true
    -- "Right after a granted epoch change, every copy of a block holds the last write listed so far, or zero"
    pub copies : (es : List Event) (e : Event) → e.kind ≡ 15 → (answer es e).code ≡ 0 → (c : ℕ) → is_chunk k c ≡ true
        → c among set_of k b ≡ true → held_by (record_of (answer es e).table c b) ≡ last (list (es ++ e ∷ []))
