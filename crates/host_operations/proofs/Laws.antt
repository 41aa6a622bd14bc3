-- One operation more
use Prim.Native.Nat.{ℕ, ◌+◌, ◌≤◌}
use mathlib.Core.Path.{◌≡◌, refl, sym}
use mathlib.Core.List.{List, [], ◌∷◌, ◌++◌}
use native.Mathlib.Omega.{arith}
use lib.ListN.{length, set, length-append}
use lib.Seq.{set_out}
use Rattle.rules.specs.declared.Operation.{Operation}
use Rattle.rules.specs.declared.Queue.{Queue}
use Rattle.rules.specs.Hosts.{queue_of}
use Rattle.rules.specs.Limits.{operation_limit}
use Rattle.rules.specs.Words.{filled}
use Rattle.rules.specs.Zero.{zero_operation}
use Rattle.rules.proofs.Loops.{filled-length, filled_more}

module _ (l : List Operation) (o : Operation) where
  abbrev pub places : List Operation
  places = filled operation_limit zero_operation l

  -- a store behind the last one ..
  pub one_more : (n : ℕ) (array : List Operation) → n ≡ length l + 1 → array ≡ set places (length l) o
      → ◌≡◌ {A = Queue} (record { count = n; operations = array }) (queue_of (l ++ o ∷ []))
  unfolding queue_of
  one_more n array h k = rw (h, k, filled_more zero_operation o operation_limit l, length-append l (o ∷ [])) refl

  -- .. where there is no place any more, changes nothing
  pub no_place : operation_limit ≤ length l → places ≡ set places (length l) o
  no_place h = sym (set_out places (length l) o (omega (arith, filled-length zero_operation operation_limit l)))
