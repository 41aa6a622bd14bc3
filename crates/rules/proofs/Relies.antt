-- What an effect relies on follows from its refusals not holding: room for its messages, an operation at the front, a head that exists
use Rattle.std.specs.Prelude.{None, Option, Some}
use Prim.Native.Nat.{ℕ, zero, suc, ◌+◌, ◌≤◌, ◌<◌}
use mathlib.Core.Path.{◌≡◌, refl}
use mathlib.Core.Bool.{Bool, true, false, cond, ◌&&◌, false≢true}
use mathlib.Core.List.{List, [], ◌∷◌}
use native.Mathlib.Omega.{arith}
use lib.ListN.{length, set}
use borrow.Author.Tests.{ltb-false, leb-true, leb-false, le-leb, eqb-false, not-false}
use Rattle.rules.specs.Types.{Epoch, Set, Creation, Waiting, State, Chunk, Host, Message}
use Rattle.rules.specs.Chunks.{run_refusals, overdue_refusals}
use Rattle.rules.specs.Codes.{code_of}
use Rattle.rules.specs.Events.{all_lost, epoch_refusals}
use Rattle.rules.specs.Formed.{attempt_formed}
use Rattle.rules.specs.Hosts.{has_current, is_outstanding, intake_refusals, start_refusals, finish_refusals, timeout_refusals}
use Rattle.rules.specs.Kinds.{is_read, is_undecided}
use Rattle.rules.specs.Limits.{block_limit, greatest_clock}
use Rattle.rules.specs.Network.{is_free, free_places, removed, sent, place_refusals}
use Rattle.rules.specs.Tables.{is_block, set_of}
use Rattle.rules.specs.Timestamps.{is_epoch, next}
use Rattle.rules.specs.Waiting.{head}
use Rattle.rules.specs.Words.{those, every, fold, place}
use Rattle.rules.proofs.Lists.{both, none_number}
use Rattle.rules.proofs.Refusals.{granted_exactly}

-- ---- hosts

module _ (h : Host) where
  -- there is a place for the operation
  pub intake_place : code_of (intake_refusals h) ≡ 0 → h.queue.count < 8
  unfolding every
  intake_place e = leb-false 8 h.queue.count ((granted_exactly (intake_refusals h) refl).0 e 1 (omega arith))

  module _ (clock copy : ℕ) (holders : Set) (free messages : ℕ) (e : code_of (start_refusals h clock copy holders free messages) ≡ 0) where
    -- there is a front operation
    pub start_front : 0 < h.queue.count
    unfolding every
    start_front =
        let n = eqb-false h.queue.count 0 ((granted_exactly (start_refusals h clock copy holders free messages) refl).0 e 2 (omega arith)) in
        omega arith

    -- there is room for its messages
    pub start_room : messages ≤ free
    unfolding every
    start_room = ltb-false free messages ((granted_exactly (start_refusals h clock copy holders free messages) refl).0 e 6 (omega arith))

  module _ (free messages : ℕ) (e : code_of (finish_refusals h free messages) ≡ 0) where
    -- there is a current operation; a well-formed host has it at the front
    pub finish_current : has_current h ≡ true
    unfolding every
    finish_current = not-false (has_current h) ((granted_exactly (finish_refusals h free messages) refl).0 e 1 (omega arith))

    pub finish_front : (k : Creation) → attempt_formed k h.queue.count h.attempt ≡ true → 0 < h.queue.count
    finish_front k f = leb-true 1 h.queue.count (both _ _ (both _ _ (rw finish_current at f)).0).0

    -- there is room for its messages
    pub finish_room : messages ≤ free
    unfolding every
    finish_room = ltb-false free messages ((granted_exactly (finish_refusals h free messages) refl).0 e 3 (omega arith))

  -- something is outstanding
  pub timeout_outstanding : code_of (timeout_refusals h) ≡ 0 → is_outstanding h ≡ true
  unfolding every
  timeout_outstanding e = not-false (is_outstanding h) ((granted_exactly (timeout_refusals h) refl).0 e 1 (omega arith))

-- ---- chunks

-- a head that is no zero entry exists
undecided_exists : (w : Waiting) → is_undecided (head w).kind ≡ true → 0 < w.count
undecided_exists w h = go w.count refl
  where
    go : (n : ℕ) → w.count ≡ n → 0 < w.count
    go zero e = absurd (false≢true (rw e at h))
    go (suc n) e = omega arith

module _ (state : State) (w : Waiting) (free : ℕ) (e : code_of (run_refusals state w free) ≡ 0) where
  -- there is a head
  pub run-head : 0 < w.count
  unfolding every
  run-head = let n = eqb-false w.count 0 ((granted_exactly (run_refusals state w free) refl).0 e 1 (omega arith)) in omega arith

  -- there is room for a read's answer
  pub run_room : is_read (head w).kind ≡ true → 0 < free
  unfolding every
  run_room h =
      let n = eqb-false free 0 (rw h at ((granted_exactly (run_refusals state w free) refl).0 e 3 (omega arith))) in
      omega arith

module _ (state : State) (w : Waiting) (now age : ℕ) (e : code_of (overdue_refusals state w now age) ≡ 0) where
  pub overdue-head : 0 < w.count
  unfolding every
  overdue-head = undecided_exists w (not-false (is_undecided (head w).kind) ((granted_exactly (overdue_refusals state w now age) refl).0 e 1 (omega arith)))

module _ (k : Creation) (epoch : Epoch) (chunks : List Chunk) (e : code_of (epoch_refusals k epoch chunks) ≡ 0) where
  -- the next epoch is in its range
  pub epoch-next : is_epoch epoch ≡ true → is_epoch (next epoch) ≡ true
  unfolding every
  epoch-next h =
      let n = eqb-false epoch.0 greatest_clock ((granted_exactly (epoch_refusals k epoch chunks) refl).0 e 1 (omega arith)) in
      let l = leb-true epoch.0 greatest_clock h in
      le-leb (epoch.0 + 1) greatest_clock (omega arith)

  -- some chunk of each block's set is not lost, so there is one to settle from
  pub epoch-holder : (b : ℕ) → b < block_limit → is_block k b ≡ true → all_lost (set_of k b) chunks ≡ false
  unfolding every
  epoch-holder b l h = rw h at (none_number (λ b. is_block k b && all_lost (set_of k b) chunks) block_limit ((granted_exactly (epoch_refusals k epoch chunks) refl).0 e 2 (omega arith)) b l)

-- ---- the network

-- a message that is delivered or dropped is there
pub place_message : (slot : Option Message) → code_of (place_refusals slot) ≡ 0 → (m : Message) × (slot ≡ Some m)
unfolding code_of
place_message None e = absurd (omega arith)
place_message (Some m) e = (m, refl)

-- a free place is one of the network's
pub free_inside : (places : List (Option Message)) → 0 < free_places places → place is_free places < length places
unfolding free_places those place
free_inside [] h = absurd (omega arith)
free_inside (p ∷ ps) h = go (is_free p) h (free_inside ps)
  where
    go : (b : Bool) → 0 < length (cond b (p ∷ those is_free ps) (those is_free ps)) → (0 < length (those is_free ps) → place is_free ps < length ps) → cond b 0 (suc (place is_free ps)) < suc (length ps)
    go true h f = omega arith
    go false h f = let k = f h in omega arith

-- a message that is sent takes one free place
pub sent-takes-one : (places : List (Option Message)) (m : Message) → 0 < free_places places → free_places (sent places m) + 1 ≡ free_places places
unfolding free_places sent those place
sent-takes-one [] m h = absurd (omega arith)
sent-takes-one (p ∷ ps) m h = go (is_free p) refl h (sent-takes-one ps m)
  where
    go : (b : Bool) → is_free p ≡ b → 0 < length (cond b (p ∷ those is_free ps) (those is_free ps))
        → (0 < length (those is_free ps) → length (those is_free (set ps (place is_free ps) (Some m))) + 1 ≡ length (those is_free ps))
        → length (those is_free (set (p ∷ ps) (cond b 0 (suc (place is_free ps))) (Some m))) + 1 ≡ length (cond b (p ∷ those is_free ps) (those is_free ps))
    go true d h f = omega arith
    go false d h f = rw d (f h)

-- so messages for which there is room each take a free place, and none is lost
pub sent-all : (places : List (Option Message)) (ms : List Message) → length ms ≤ free_places places → free_places (fold sent places ms) + length ms ≡ free_places places
unfolding fold
sent-all places [] h = omega arith
sent-all places (m ∷ ms) h =
    let k = sent-takes-one places m (omega arith) in
    let r = sent-all (sent places m) ms (omega arith) in
    omega arith

-- "so room never lacks": the place of the message itself is free for its reply
pub reply-room : (places : List (Option Message)) (p : ℕ) → p < length places → 0 < free_places (removed places p)
unfolding free_places those
reply-room [] p h = absurd (omega arith)
reply-room (x ∷ xs) zero h = omega arith
reply-room (x ∷ xs) (suc p) h = go (is_free x) (reply-room xs p (omega arith))
  where
    go : (b : Bool) → 0 < length (those is_free (removed xs p)) → 0 < length (cond b (x ∷ those is_free (removed xs p)) (those is_free (removed xs p)))
    go true k = omega arith
    go false k = k
