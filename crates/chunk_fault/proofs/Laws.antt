-- The records of a chunk emptied one after the other are all of them emptied
use Prim.Native.Nat.{ℕ, zero, suc, ◌+◌, ◌≤◌, ◌<◌}
use mathlib.Core.Path.{◌≡◌, refl, ap, ◌∙◌}
use mathlib.Core.Bool.{Bool, true, false, cond, ◌&&◌, and-true, and-false}
use mathlib.Core.List.{List, [], ◌∷◌}
use native.Mathlib.Decide.{dec_le, ℕ_discrete}
use native.Mathlib.Omega.{arith}
use lib.ListN.{length, get_or, set, length-set}
use lib.Dec.{eqb, ltb}
use Rattle.std.specs.Prelude.{Ok, Err}
use Rattle.std.proofs.lemmas.List.{get_or_default}
use lib.Seq.{get_or-set_same, get_or-set_other, set_out}
use borrow.Author.Tests.{lt-ltb, le-ltb, eq-eqb, ne_eqb}
use Rattle.rules.specs.declared.Record.{Record}
use Rattle.rules.specs.declared.Chunk.{Chunk}
use Rattle.rules.specs.declared.Refused.{Refused}
use Rattle.rules.specs.declared.Table.{Table}
use Rattle.rules.specs.Chunks.{fail_refusals, failed, emptied}
use Rattle.rules.specs.Codes.{Row, code_of, ruled, refused_by}
use Rattle.rules.specs.Events.{without_waiting}
use Rattle.rules.specs.Limits.{chunk_limit, block_limit}
use Rattle.rules.specs.Tables.{at, records_by, chunk_of, with_records}
use Rattle.rules.specs.Zero.{zero_chunk, zero_record, no_chunk, no_record}
use Rattle.rules.proofs.Lists.{grid-at}
use Rattle.rules.proofs.Loops.{below_next, grid-length, grid_of, grid-same}
use Rattle.table_records.specs.Numbers.{record_number}
use Rattle.chunk_fault.specs.Steps.{with_emptied, failed_to}

-- a part that two defaults have in common
default_part : {A B : Type 0} (f : A → B) (d e : A) → f d ≡ f e → (l : List A) (i : ℕ) → f (get_or l i d) ≡ f (get_or l i e)
default_part f d e h [] i = h
default_part f d e h (x ∷ l) zero = refl
default_part f d e h (x ∷ l) (suc i) = default_part f d e h l i

pub block_is : (t z : Table) (chunk b i : ℕ) (held none : Record) → i ≡ record_number chunk b → held ≡ get_or t.records i zero_record → none ≡ emptied held
    → z ≡ with_records t (set t.records i none) → z ≡ with_emptied chunk t b
block_is t z chunk b i held none hi hh hn h = h ∙ rw (hn, hh, hi) refl

-- ---- one block after the other

module _ (h : Table) (len : length h.records ≡ 128) (chunk : ℕ) where
  abbrev old : (c b : ℕ) → Record
  old c b = get_or h.records (at c b) no_record

  abbrev empty_to : ℕ → (c b : ℕ) → Record
  empty_to i c b = cond (eqb c chunk && ltb b i) (emptied (old c b)) (old c b)

  -- the table with the chunk's records below block i emptied
  abbrev pub table_to : ℕ → Table
  table_to i = with_records h (records_by (empty_to i))

  pub table-begins : h ≡ table_to 0
  table-begins =
      ap (with_records h) (grid_of chunk_limit block_limit no_record (empty_to 0) h.records len (λ c b _ _. rw (le-ltb b 0 (omega arith), and-false (eqb c chunk)) refl))

  module _ (i : ℕ) (inside : i < block_limit) where
    abbrev now : List Record
    now = records_by (empty_to i)

    size : length now ≡ 128
    size = grid-length chunk_limit block_limit (empty_to i)

    held : (c b : ℕ) → c < chunk_limit → b < block_limit → get_or now (at c b) no_record ≡ empty_to i c b
    held c b k m = grid-at (empty_to i) chunk_limit block_limit c b no_record k m

    -- the chunk is one of the store's places
    here : chunk < chunk_limit → set now (at chunk i) (emptied (get_or now (at chunk i) zero_record)) ≡ records_by (empty_to (i + 1))
    here k =
        let j : at chunk i < length now = rw size (omega arith) in
        let e : get_or now (at chunk i) zero_record ≡ old chunk i =
        get_or_default now (at chunk i) zero_record no_record j ∙ held chunk i k inside ∙ rw (le-ltb i i (omega arith), and-false (eqb chunk chunk)) refl in
        rw e (grid_of chunk_limit block_limit no_record (empty_to (i + 1)) (set now (at chunk i) (emptied (old chunk i))) (length-set now (at chunk i) (emptied (old chunk i)) ∙ size)
        (λ c b l m. go j c b l m (ℕ_discrete c chunk) (ℕ_discrete b i)))
      where
        other : (c b : ℕ) → c < chunk_limit → b < block_limit → (at c b ≡ at chunk i → ⊥) → get_or (set now (at chunk i) (emptied (old chunk i))) (at c b) no_record ≡ empty_to i c b
        other c b l m e = get_or-set_other now (at chunk i) (at c b) (emptied (old chunk i)) no_record e ∙ held c b l m

        go : at chunk i < length now → (c b : ℕ) → c < chunk_limit → b < block_limit → Dec (c ≡ chunk) → Dec (b ≡ i) → get_or (set now (at chunk i) (emptied (old chunk i))) (at c b) no_record ≡ empty_to (i + 1) c b
        go j c b l m (yes e) (yes d) = rw (e, d, lt-ltb i (i + 1) (omega arith), eq-eqb chunk chunk refl) (get_or-set_same now (at chunk i) (emptied (old chunk i)) no_record j)
        go j c b l m (yes e) (no d) = other c b l m (λ x. d (omega arith)) ∙ rw (below_next i b d) refl
        go j c b l m (no e) _ = other c b l m (λ x. e (omega arith)) ∙ rw (ne_eqb c chunk e) refl

    -- it is none of them
    beyond : chunk_limit ≤ chunk → now ≡ records_by (empty_to (i + 1))
    beyond k = grid-same chunk_limit block_limit no_record (empty_to i) (empty_to (i + 1)) (λ c b l _. rw (ne_eqb c chunk (λ e. omega arith)) refl)

    pub table-next : with_emptied chunk (table_to i) i ≡ table_to (i + 1)
    table-next = ap (with_records h) (go (dec_le chunk_limit chunk))
      where
        go : Dec (chunk_limit ≤ chunk) → set now (record_number chunk i) (emptied (get_or now (record_number chunk i) zero_record)) ≡ records_by (empty_to (i + 1))
        go (yes k) = rw (le-ltb chunk chunk_limit k) (set_out now 128 (emptied (get_or now 128 zero_record)) (omega (arith, size)) ∙ beyond k)
        go (no k) = rw (lt-ltb chunk chunk_limit (omega arith), lt-ltb i block_limit inside) (here (omega arith))

  pub table-ends : (i : ℕ) → i ≤ 16 → 16 ≤ i → table_to i ≡ with_records h (without_waiting h.records chunk)
  table-ends i le ge =
      let e : i ≡ 16 = omega arith in
      ap table_to e ∙ ap (with_records h) (grid-same chunk_limit block_limit no_record (empty_to 16) (λ c b. cond (eqb c chunk) (emptied (old c b)) (old c b)) (λ c b _ m. rw (lt-ltb b 16 m, and-true (eqb c chunk)) refl))

-- ---- a chunk that may not fail

-- where there is an error, there is for any effect, and nothing is done
ruled_err : {A B : Type 0} (rows : List Row) (x : A) (y : B) (why : Refused) → ruled rows x ≡ Err why → (Err why ≡ ruled rows y) × (eqb (code_of rows) 0 ≡ false)
ruled_err rows x y why = go (eqb (code_of rows) 0) refl
  where
    go : (b : Bool) → eqb (code_of rows) 0 ≡ b → cond b (Ok x) (Err (refused_by (code_of rows))) ≡ Err why → (Err why ≡ ruled rows y) × (eqb (code_of rows) 0 ≡ false)
    go true e h = absurd cc
    go false e h = let k : why ≡ refused_by (code_of rows) = cc in (rw (e, k) refl, e)

pub stays : (t : Table) (chunk : ℕ) (c : Chunk) (why : Refused) → c ≡ get_or t.chunks chunk zero_chunk → ruled (fail_refusals c.state) (failed c) ≡ Err why
    → (Err why ≡ ruled (fail_refusals (chunk_of t chunk).state) (tt {0})) × (t ≡ failed_to chunk t)
stays t chunk c why is h =
    let e : c.state ≡ (chunk_of t chunk).state = ap (λ (c : Chunk). c.state) is ∙ default_part (λ (c : Chunk). c.state) zero_chunk no_chunk refl t.chunks chunk in
    let r = ruled_err (fail_refusals c.state) (failed c) (tt {0}) why h in
    (rw (← e) r.0, rw (← e, r.1) refl)
