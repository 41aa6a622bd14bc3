-- Document 01, "Errors that look right": the fact that each would break. (Settlement's two are P3 and P4 of Cases; a ninth operation is
-- intake_place of Relies)
use Prim.Native.Nat.{ℕ, ◌<◌}
use mathlib.Core.Path.{◌≡◌, refl}
use mathlib.Core.Bool.{true, false, not}
use mathlib.Core.List.{List, [], ◌∷◌}
use native.Mathlib.Omega.{arith}
use lib.ListN.{get_or}
use borrow.Author.Tests.{leb-false, le-ltb}
use Rattle.rules.specs.Types.{Set, Entry, Waiting, State, Host}
use Rattle.rules.specs.Chunks.{give_lease_refusals, run_refusals}
use Rattle.rules.specs.Codes.{code_of}
use Rattle.rules.specs.Hosts.{start_refusals, started}
use Rattle.rules.specs.Kinds.{is_undecided}
use Rattle.rules.specs.Timestamps.{stamp, ◌below◌}
use Rattle.rules.specs.Waiting.{in_order, head}
use Rattle.rules.specs.Words.{every}
use Rattle.rules.specs.Zero.{zero_entry}
use Rattle.rules.proofs.Order.{Ordered, not-below}
use Rattle.rules.proofs.Refusals.{granted_exactly}

-- a lost chunk is refused its lease in every state, whatever its epoch
pub lost_no_lease : (state : State) → code_of (give_lease_refusals state true) ≡ 2
unfolding code_of
lost_no_lease State.Normal = refl
lost_no_lease State.Nolease = refl
lost_no_lease State.Failed = refl

-- what runs is no undecided write, and nothing that waits has a smaller timestamp: so no read is served past an undecided write
module _ (w : Waiting) where
  pub runs-decided : (state : State) (free : ℕ) → code_of (run_refusals state w free) ≡ 0 → is_undecided (head w).kind ≡ false
  unfolding every
  runs-decided state free e = (granted_exactly (run_refusals state w free) refl).0 e 2 (omega arith)

  pub runs-least : Ordered (in_order w) → every (λ x. not (x.timestamp below (head w).timestamp)) (in_order w) ≡ true
  unfolding every
  runs-least = go (in_order w)
    where
      go : (l : List Entry) → Ordered l → every (λ x. not (x.timestamp below (get_or l 0 zero_entry).timestamp)) l ≡ true
      go [] o = refl
      go (x ∷ xs) o = rw (le-ltb x.timestamp.0 x.timestamp.0 (omega arith), not-below x.timestamp.0 x.timestamp xs (omega arith) o.1) refl

-- each start draws a number above the last one and remembers it: an attempt has a timestamp of its own, a retried write's too
module _ (h : Host) (host clock copy : ℕ) (holders : Set) (free messages : ℕ) where
  pub start_draws : code_of (start_refusals h clock copy holders free messages) ≡ 0
      → ((stamp h.clock host).0 < (started h (stamp clock host) clock holders).attempt.timestamp.0) × ((started h (stamp clock host) clock holders).clock ≡ clock)
  unfolding every
  start_draws e =
      let k = leb-false clock h.clock ((granted_exactly (start_refusals h clock copy holders free messages) refl).0 e 5 (omega arith)) in
      (omega arith, refl)
