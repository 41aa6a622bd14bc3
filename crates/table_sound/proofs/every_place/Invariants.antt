use Rattle.std.proofs.Common.{◌≡◌, ℕ, Bool, get_or}
use Rattle.rules.specs.Words.{every, numbers}
use Rattle.table_sound.proofs.every_place.Given as goal

-- every place before i is formed
abbrev pub invariant-loop-i : goal.invariant-loop-i
invariant-loop-i g l =
    (p : ℕ → Bool) → ((i : ℕ) (x : _) (r : Bool) → ((d : _) → x.now ≡ get_or l.places i d) → goal.F-post g l.formed i x r → r ≡ p i)
    → l.ok ≡ every p (numbers l.i)
