-- Every place of an array is looked at
use Rattle.std.specs.Prelude.{ℕ, Bool, List, length, get_or, ◌≡◌}
use Rattle.std.specs.Fn.{Shared}
use denote.Ref.{Bor}
use Rattle.rules.specs.Words.{every, numbers}

-- `out` is that every number below the array's length is p, for whatever p it is that the closure says of each place: of its
-- number, and of what stands there
abbrev pub LooksAtEvery : {F T : Type 0} → Shared F (ℕ × (Bor T × Unit {0})) Bool → F → List T → (out : Bool) → Type 0
LooksAtEvery {F} {T} g formed places out =
    (p : ℕ → Bool) (n : ℕ) → length places ≡ n
    → ((i : ℕ) (x : Bor T) (r : Bool) → ((d : T) → x.now ≡ get_or places i d) → g.post formed (i, (x, tt)) r → r ≡ p i)
    → out ≡ every p (numbers n)
