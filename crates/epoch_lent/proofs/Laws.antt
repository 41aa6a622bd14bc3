-- The blocks of a table settled one after the other, each chunk by chunk, are all of them settled
use Prim.Native.Nat.{ℕ, ◌+◌, ◌<◌, ◌≤◌}
use mathlib.Core.Path.{◌≡◌, refl, sym, ap, ◌∙◌}
use mathlib.Core.Bool.{Bool, cond, ◌&&◌, ◌||◌, and-false}
use mathlib.Core.List.{List}
use native.Mathlib.Decide.{ℕ_discrete}
use native.Mathlib.Omega.{arith}
use lib.ListN.{length, get_or, set, length-set, get_or-map}
use lib.Dec.{ltb, eqb}
use lib.Seq.{get_or-set_same, get_or-set_other}
use borrow.Author.Tests.{lt-ltb, le-ltb, eq-eqb, ne_eqb}
use Rattle.std.proofs.lemmas.List.{get_or_default}
use Rattle.rules.specs.declared.Record.{Record}
use Rattle.rules.specs.declared.Chunk.{Chunk}
use Rattle.rules.specs.declared.Copy.{Copy}
use Rattle.rules.specs.declared.Table.{Table}
use Rattle.rules.specs.Events.{copy_in, copies_in, settled_in}
use Rattle.rules.specs.Limits.{chunk_limit, block_limit}
use Rattle.rules.specs.Settlement.{settled}
use Rattle.rules.specs.Tables.{at, records_by, with_records}
use Rattle.rules.specs.Words.{numbers}
use Rattle.rules.specs.Zero.{zero_chunk, zero_record, no_chunk, no_record, no_copy}
use Rattle.rules.proofs.Lists.{numbers-length, each-length, each_number, grid-at}
use Rattle.rules.proofs.Loops.{each_of, made, made-next, below_next, grid-length, grid_of, grid-same}
use Rattle.table_records.specs.Numbers.{record_number}
use Rattle.epoch_lent.specs.Steps.{copy_at, copies_at}

-- a place made by what a call leaves there
pub made-at : {A : Type 0} (f g : ℕ → A) (n i : ℕ) (l : List A) (x : A) → i < n → l ≡ made f g n i → x ≡ f i → set l i x ≡ made f g n (i + 1)
made-at f g n i l x h k e = rw (k, e) (made-next f g n i h)

number-inside : (c b : ℕ) → c < chunk_limit → b < block_limit → record_number c b ≡ at c b
number-inside c b h k = rw (lt-ltb c chunk_limit h, lt-ltb b block_limit k) refl

-- ---- the records by chunk and block

records-same : (f g : ℕ → ℕ → Record) → ((c b : ℕ) → c < chunk_limit → b < block_limit → f c b ≡ g c b) → records_by f ≡ records_by g
records-same f g h = grid-same chunk_limit block_limit no_record f g h

-- one of them stored
records-set : (f g : ℕ → ℕ → Record) (c b : ℕ) → c < chunk_limit → b < block_limit
    → ((i j : ℕ) → i < chunk_limit → j < block_limit → ((i ≡ c) × (j ≡ b) → ⊥) → f i j ≡ g i j) → set (records_by f) (at c b) (g c b) ≡ records_by g
records-set f g c b h k same =
    grid_of chunk_limit block_limit no_record g (set (records_by f) (at c b) (g c b)) (length-set (records_by f) (at c b) (g c b) ∙ grid-length chunk_limit block_limit f)
    (λ i j l m. go i j l m (ℕ_discrete i c) (ℕ_discrete j b))
  where
    other : (i j : ℕ) → i < chunk_limit → j < block_limit → ((i ≡ c) × (j ≡ b) → ⊥) → get_or (set (records_by f) (at c b) (g c b)) (at i j) no_record ≡ g i j
    other i j l m e =
        get_or-set_other (records_by f) (at c b) (at i j) (g c b) no_record (λ x. e (omega arith, omega arith)) ∙ grid-at f chunk_limit block_limit i j no_record l m ∙ same i j l m e

    go : (i j : ℕ) → i < chunk_limit → j < block_limit → Dec (i ≡ c) → Dec (j ≡ b) → get_or (set (records_by f) (at c b) (g c b)) (at i j) no_record ≡ g i j
    go i j l m (yes d) (yes e) =
        rw (d, e) (get_or-set_same (records_by f) (at c b) (g c b) no_record (omega (arith, grid-length chunk_limit block_limit f)))
    go i j l m (yes d) (no e) = other i j l m (λ x. e x.1)
    go i j l m (no d) _ = other i j l m (λ x. d x.0)

-- ---- block after block, chunk after chunk

module _ (t : Table) where
  abbrev settled_at : (chunk block : ℕ) → Record
  settled_at c b = (get_or (settled (copies_in t.creation t.chunks t.records b)) c no_copy).held

  -- the blocks before b are settled, and block b in the chunks before c
  abbrev pub settled_until : (b c : ℕ) → (chunk block : ℕ) → Record
  settled_until b c i j = cond (ltb j b || eqb j b && ltb i c) (settled_at i j) (get_or t.records (at i j) no_record)

  abbrev pub table_until : (b c : ℕ) → Table
  table_until b c = with_records t (records_by (settled_until b c))

  pub table_begins : length t.records ≡ 128 → t ≡ table_until 0 0
  table_begins h = ap (with_records t) (grid_of chunk_limit block_limit no_record (settled_until 0 0) t.records h (λ i j _ _. rw (le-ltb j 0 (omega arith), le-ltb i 0 (omega arith), and-false) refl))

  pub table_stored : (b c : ℕ) → b < block_limit → c < chunk_limit → with_records t (set (records_by (settled_until b c)) (at c b) (settled_at c b)) ≡ table_until b (c + 1)
  table_stored b c h k =
      let here : settled_at c b ≡ settled_until b (c + 1) c b = rw (le-ltb b b (omega arith), eq-eqb b b refl, lt-ltb c (c + 1) (omega arith)) refl in
      ap (λ (r : Record). with_records t (set (records_by (settled_until b c)) (at c b) r)) here
      ∙ ap (with_records t) (records-set (settled_until b c) (settled_until b (c + 1)) c b k h (λ i j _ _ e. go i j e (ℕ_discrete j b)))
    where
      go : (i j : ℕ) → ((i ≡ c) × (j ≡ b) → ⊥) → Dec (j ≡ b) → settled_until b c i j ≡ settled_until b (c + 1) i j
      go i j e (yes d) = rw (below_next c i (λ x. e (x, d))) refl
      go i j e (no d) = rw (ne_eqb j b d) refl

  pub block_ends : (b c : ℕ) → chunk_limit ≤ c → table_until b c ≡ table_until (b + 1) 0
  block_ends b c h = ap (with_records t) (records-same (settled_until b c) (settled_until (b + 1) 0) (λ i j k _. go i j k (ℕ_discrete j b)))
    where
      go : (i j : ℕ) → i < chunk_limit → Dec (j ≡ b) → settled_until b c i j ≡ settled_until (b + 1) 0 i j
      go i j k (yes d) = rw (d, le-ltb b b (omega arith), eq-eqb b b refl, lt-ltb i c (omega arith), lt-ltb b (b + 1) (omega arith)) refl
      go i j k (no d) = rw (ne_eqb j b d, below_next b j d, le-ltb i 0 (omega arith), and-false) refl

  pub table_ends : (b : ℕ) → block_limit ≤ b → table_until b 0 ≡ with_records t (settled_in t.creation t.chunks t.records)
  table_ends b h = ap (with_records t) (records-same (settled_until b 0) settled_at (λ i j _ l. rw (lt-ltb j b (omega arith)) refl))

  -- a block that is not settled yet is read as it was
  pub copies_same : (b : ℕ) → b < block_limit → copies_at (table_until b 0) b ≡ copies_in t.creation t.chunks t.records b
  copies_same b h =
      each_of no_copy (copy_in t.creation t.chunks t.records b) chunk_limit (copies_at now b) (each-length (copy_at now b) (numbers chunk_limit) ∙ numbers-length chunk_limit)
      (λ c k. each_number (copy_at now b) chunk_limit c no_copy k ∙ copy_same c k)
    where
      now : Table
      now = table_until b 0

      copy_same : (c : ℕ) → c < chunk_limit → copy_at now b c ≡ copy_in t.creation t.chunks t.records b c
      copy_same c k =
          let lost : Chunk → Bool = λ x. x.lost in
          let l : (get_or t.chunks c zero_chunk).lost ≡ (get_or t.chunks c no_chunk).lost = sym (get_or-map lost t.chunks c zero_chunk) ∙ get_or-map lost t.chunks c no_chunk in
          let r : get_or now.records (record_number c b) zero_record ≡ get_or t.records (at c b) no_record =
          rw (number-inside c b k h) (get_or_default now.records (at c b) zero_record no_record (omega (arith, grid-length chunk_limit block_limit (settled_until b 0)))
          ∙ grid-at (settled_until b 0) chunk_limit block_limit c b no_record k h ∙ rw (le-ltb b b (omega arith), le-ltb c 0 (omega arith), and-false) refl) in
          rw (l, r) refl

  -- what the code stores
  pub record_stored : (b c : ℕ) → b < block_limit → c < chunk_limit → (now later : Table) (i : ℕ) (copies : List Copy) → now ≡ table_until b c → i ≡ record_number c b
      → copies ≡ settled (copies_in t.creation t.chunks t.records b) → later ≡ with_records now (set now.records i (get_or copies c no_copy).held) → later ≡ table_until b (c + 1)
  record_stored b c h k now later i copies hn hi hc hl = hl ∙ rw (hn, hi, number-inside c b k h, hc) (table_stored b c h k)
