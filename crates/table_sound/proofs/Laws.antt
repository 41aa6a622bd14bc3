-- Laws that the proofs of the functions cite
use Prim.Native.Nat.{ℕ, ◌+◌, ◌*◌, ◌/◌, ◌%◌}
use mathlib.Core.Path.{◌≡◌, refl, sym, ◌∙◌}
use mathlib.Core.Bool.{Bool, true, false, ◌&&◌, true≢false}
use mathlib.Core.List.{List}
use native.Mathlib.Nat.{div-add-mod'}
use native.Mathlib.Omega.{arith}
use lib.ListN.{get_or}
use Rattle.rules.specs.declared.Record.{Record}
use Rattle.rules.specs.Formed.{record_at, records_formed}
use Rattle.rules.specs.Limits.{chunk_limit, block_limit}
use Rattle.rules.specs.Tables.{at}
use Rattle.rules.specs.Words.{every, numbers}
use Rattle.rules.specs.Zero.{no_record}
use Rattle.rules.proofs.Lists.{every-number, every-numbers}
use Rattle.rules.proofs.Loops.{every-next, every_stop, every-same, every-flat}
use Rattle.table_sound.specs.declared.Counts.{Counts}
use Rattle.table_sound.specs.Parts.{counted, record_of_number}

-- one place more is looked at
pub every_more : (p : ℕ → Bool) (i : ℕ) (ok r : Bool) → ok ≡ every p (numbers i) → r ≡ p i → ok && r ≡ every p (numbers (i + 1))
every_more p i ok r h k = go ok (sym h) r (sym k)
  where
    none : every p (numbers i) ≡ false → (b : Bool) → every p (numbers (i + 1)) ≡ b → false ≡ b
    none h false e = refl
    none h true e = absurd (true≢false (sym (every-numbers p i (λ j l. every-number p (i + 1) e j (omega arith))) ∙ h))

    go : (a : Bool) → every p (numbers i) ≡ a → (b : Bool) → p i ≡ b → a && b ≡ every p (numbers (i + 1))
    go true e true f = sym (every-next p i e f)
    go true e false f = sym (every_stop p (i + 1) i (omega arith) f)
    go false e b f = none e (every p (numbers (i + 1))) refl

-- the records: chunk by chunk, and in them block by block
module _ (n : Counts) (records : List Record) where
  in_place : (i : ℕ) → record_of_number n i (get_or records i no_record) ≡ record_of_number n i (get_or records (at (i / block_limit) (i % block_limit)) no_record)
  in_place i = rw (div-add-mod' i block_limit) refl

  pub record_by_record : every (λ i. record_of_number n i (get_or records i no_record)) (numbers (chunk_limit * block_limit)) ≡ records_formed (counted n) records
  record_by_record =
      every-same _ _ in_place (numbers (chunk_limit * block_limit))
      ∙ every-flat (λ c b. record_at (counted n) c b (get_or records (at c b) no_record)) chunk_limit block_limit (omega arith)
