-- What the definitions say together: the sum that a set is given by is the sum over its chunks
use Prim.Native.Nat.{ℕ, ◌+◌, ◌^◌, ◌<◌}
use mathlib.Core.Path.{◌≡◌, refl}
use lib.Dec.{eqb}
use borrow.Author.Tests.{eqb-true}
use Rattle.rules.specs.declared.Set.{Set}
use Rattle.rules.specs.Limits.{chunk_limit}
use Rattle.rules.specs.Words.{each, those, every, fold, from, numbers}
use Rattle.rules.specs.Zero.{◌among◌}
use Rattle.rules.proofs.Lists.{every-number}
use Rattle.text_meanings.specs.Meanings.{set_with}

abbrev sum_over : Set → ℕ
sum_over s = fold (λ n c. n + 2 ^ c) 0 (those (λ c. c among s) (numbers chunk_limit))

pub set_sum : (n : ℕ) → n < 256 → sum_over (set_with n) ≡ n
unfolding every each those fold from
set_sum n h = eqb-true (sum_over (set_with n)) n (every-number (λ n. eqb (sum_over (set_with n)) n) 256 refl n h)
