use Rattle.std.proofs.Common.{◌≡◌, ◌<◌, ◌≤◌, ℕ}
use Rattle.std.specs.Prelude.{None, Some, if◌then◌else◌}
use Rattle.rules.specs.Zero.{◌among◌}
use Rattle.rules.specs.declared.Message.{Message}
use Rattle.rules.proofs.Loops.{made}
use Rattle.network_requests.proofs.to_each.Given as goal

-- those of the first c chunks are made
abbrev pub invariant-loop-c : goal.invariant-loop-c
invariant-loop-c g l =
    goal.F-IsAlwaysCallable g l.message
    × (l.c-counter ≤ 8)
    × ((m : (chunk : ℕ) → Message) → ((c : ℕ) (x : Message) → c < 8 → goal.F-post g l.message c x → x ≡ m c)
    → l.out ≡ made (λ i. if i among l.to then Some (m i) else None) (λ _. None) 8 l.c-counter)
