-- A table and its history are good; reading a table with one part changed
use Rattle.std.specs.Prelude.{Option}
use Prim.Native.Nat.{ℕ, ◌+◌, ◌*◌, ◌<◌}
use mathlib.Core.Path.{◌≡◌, refl, sym, subst⁻¹, ◌∙◌, ap, fun_ext}
use mathlib.Core.Logic.{◌⊎◌, inl, inr}
use mathlib.Core.Bool.{Bool, true, false, cond, not}
use mathlib.Core.List.{List, [], ◌++◌}
use native.Mathlib.Omega.{arith}
use lib.ListN.{get_or, set}
use lib.Dec.{eqb}
use lib.Seq.{get_or-set_same, get_or-set_other}
use borrow.Author.Tests.{eqb-true, not-true, not-false}
use Rattle.one_copy.specs.Types.{Creation, Record, Chunk, Host, Table, Outcome, Message}
use Rattle.one_copy.specs.Listed.{Write}
use Rattle.rules.specs.Chunks.{emptied}
use Rattle.rules.specs.Creation.{of_store}
use Rattle.rules.specs.Limits.{host_limit, chunk_limit, block_limit}
use Rattle.rules.specs.Tables.{is_chunk, is_block, set_of, host_of, chunk_of, record_of, records_by, with_places, with_host, with_chunk, with_record, with_records}
use Rattle.rules.specs.Words.{some, numbers}
use Rattle.rules.specs.Zero.{◌among◌, is_empty, no_host, no_chunk, no_record}
use Rattle.rules.proofs.Formed.{Formed, creation-facts, chunk-place, block-place, of_store_lem}
use Rattle.rules.proofs.Lists.{both, some_number, grid-at}
use Rattle.one_copy.proofs.Tests.{at, at_map, at_same, at_other, at_with, eq_or_ne, le_or_lt}
use Rattle.one_copy.proofs.Abs.{write_k}
use Rattle.one_copy.proofs.Lists.{Any, get_d_set}
use Rattle.one_copy.proofs.Shapes.{Shape, records-beyond, beyond}
use Rattle.one_copy.proofs.View.{Hist, Part, part_with, part_of, Seat, seat_of, seats_of, IsIt, HasW, CInv}

-- chunk c holds a copy of block b
abbrev pub In : Creation → (block chunk : ℕ) → Type 0
In k b c = (is_chunk k c ≡ true) × (c among set_of k b ≡ true)

module _ (b : ℕ) where
  -- the invariant of table t with history h
  abbrev pub Good : Hist → Table → Type 0
  Good h t = CInv (In t.creation b) b h t.epoch.0 (seats_of t) (part_of t b) t.places

-- a block's chunks are the store's, and there is one
module _ (t : Table) (f : Formed t) (b : ℕ) (lb : is_block t.creation b ≡ true) where
  -- a chunk of the set has a place
  pub inside : (c : ℕ) → In t.creation b c → c < chunk_limit
  inside c m = chunk-place t.creation c m.0 f.creation

  -- a block has one
  pub small : b < block_limit
  small = block-place t.creation b lb f.creation

  -- some chunk is in the set
  pub holder : (c : ℕ) × In t.creation b c
  holder =
      let k = t.creation in
      let r = both (not (is_empty (set_of k b))) (of_store k (set_of k b)) (rw lb at ((creation-facts k f.creation).sets b small)) in
      let s = some_number (λ c. c among set_of k b) chunk_limit (not-false (some (λ c. c among set_of k b) (numbers chunk_limit))
      (not-true (is_empty (set_of k b)) r.0)) in
      (s.0, (of_store_lem k (set_of k b) r.1 s.0 s.1 s.2, s.2))

-- reading an updated table
module _ (b : ℕ) (h : Hist) (t : Table) (s : Shape t) where
  -- the invariant with other hosts, parts and messages
  abbrev Views : (ℕ → Seat) → (ℕ → Part) → List (Option Message) → Type 0
  Views hs ps n = CInv (In t.creation b) b h t.epoch.0 hs ps n

  -- host j changed
  pub good-host : (j : ℕ) (x : Host) (n : List (Option Message)) → j < host_limit → Views (at j (seat_of x) (seats_of t)) (part_of t b) n
      → Good b h (with_places (with_host t j x) n)
  good-host j x n l i = subst⁻¹ (λ (g : ℕ → Seat). Views g (part_of t b) n)
      (fun_ext (λ a. ap seat_of (get_d_set t.hosts j x no_host (omega (arith, s.hosts)) a)) ∙ at_map seat_of j x (host_of t)) i

  -- chunk c changed, its records as they were
  pub good-chunk : (c : ℕ) (x : Chunk) (n : List (Option Message)) → c < chunk_limit
      → Views (seats_of t) (at c (part_with x (record_of t c b)) (part_of t b)) n → Good b h (with_places (with_chunk t c x) n)
  good-chunk c x n l i = subst⁻¹ (λ (g : ℕ → Part). Views (seats_of t) g n)
      (fun_ext (λ a. ap (λ (y : Chunk). part_with y (record_of t a b)) (get_d_set t.chunks c x no_chunk (omega (arith, s.chunks)) a))
      ∙ at_with part_with c x (chunk_of t) (λ a. record_of t a b)) i

  -- the records of this block, read
  module _ (f : List Record) (g : ℕ → Record) (e : (a : ℕ) → get_or f (a * block_limit + b) no_record ≡ g a) where
    -- with any messages
    pub good-records : (n : List (Option Message)) → Views (seats_of t) (λ a. part_with (chunk_of t a) (g a)) n
        → Good b h (with_places (with_records t f) n)
    good-records n i = subst⁻¹ (λ (g : ℕ → Part). Views (seats_of t) g n) (fun_ext (λ a. ap (part_with (chunk_of t a)) (e a))) i

  -- the record of this block
  pub good_record : (c : ℕ) (r : Record) (n : List (Option Message)) → c < chunk_limit → b < block_limit
      → Views (seats_of t) (at c (part_with (chunk_of t c) r) (part_of t b)) n → Good b h (with_places (with_record t c b r) n)
  good_record c r n l lb i = good-records (set t.records (c * block_limit + b) r) (at c r (λ a. record_of t a b)) here n
      (subst⁻¹ (λ (g : ℕ → Part). Views (seats_of t) g n) (at_with (λ r c. part_with c r) c r (λ a. record_of t a b) (chunk_of t)) i)
    where
      here : (a : ℕ) → get_or (set t.records (c * block_limit + b) r) (a * block_limit + b) no_record ≡ at c r (λ a. record_of t a b) a
      here a = elim (eq_or_ne a c) [
        | inl q ↦ rw (
          q,
          get_or-set_same t.records (c * block_limit + b) r no_record (omega (arith, s.records)),
          at_same c r
              (λ a. record_of t a b),
        )
        | inr q ↦ get_or-set_other t.records (c * block_limit + b) (a * block_limit + b) r no_record (λ z. q (omega arith))
            ∙ sym (at_other c r (λ a. record_of t a b) a q)
      ]

  -- the record of another block
  pub good-far : (c d : ℕ) (r : Record) (n : List (Option Message)) → b < block_limit → d < block_limit → (d ≡ b → ⊥)
      → Views (seats_of t) (part_of t b) n → Good b h (with_places (with_record t c d r) n)
  good-far c d r n lb ld far i = good-records (set t.records (c * block_limit + d) r) (λ a. record_of t a b)
      (λ a. get_or-set_other t.records (c * block_limit + d) (a * block_limit + b) r no_record (λ z. far (omega arith))) n i

  -- the records of one chunk emptied
  pub emptied-at : (c : ℕ) → c < chunk_limit → b < block_limit
      → (a : ℕ) → get_or (records_by (λ d b. cond (eqb d c) (emptied (record_of t d b)) (record_of t d b)))
      (a * block_limit + b) no_record ≡ at c (emptied (record_of t c b)) (λ a. record_of t a b) a
  emptied-at c l lb a = elim (le_or_lt chunk_limit a) [
    | inl q ↦ records-beyond (λ d b. cond (eqb d c) (emptied (record_of t d b)) (record_of t d b)) a b q
        ∙ sym (at_other c (emptied (record_of t c b)) (λ a. record_of t a b) a (λ z. omega arith) ∙ beyond t s a b q)
    | inr q ↦ grid-at (λ d b. cond (eqb d c) (emptied (record_of t d b)) (record_of t d b)) chunk_limit block_limit a b no_record q lb
        ∙ go (eqb a c) refl
  ]
    where
      go : (x : Bool) → eqb a c ≡ x → cond x (emptied (record_of t a b)) (record_of t a b) ≡ cond x (emptied (record_of t c b))
          (record_of t a b)
      go true e = ap (λ (d : ℕ). emptied (record_of t d b)) (eqb-true a c e)
      go false e = refl

-- ---- what an event makes of a good table: ws are the writes that it lists, o its outcome

-- a host is at a write of block b: v under u
pub record Trying (b : ℕ) (t : Table) (u v : ℕ) : Type 0 where
  pub host : ℕ
  pub place : host < host_limit
  pub at : HasW b (seats_of t host) u
  pub value : (seats_of t host).value ≡ v

pub record Next (b : ℕ) (h : Hist) (t : Table) (ws : List Write) (o : Outcome) (t' : Table) : Type 0 where
  pub hist : Hist
  pub good : Good b hist t'
  pub listed : hist.listed ≡ ws ++ h.listed
  pub kept : (u v : ℕ) → Any (IsIt u v) h.reads → Any (IsIt u v) hist.reads
  pub done : (j v : ℕ) → o ≡ Outcome.ReadDone j b v → Any (IsIt (host_of t j).attempt.timestamp.0 v) hist.reads
  -- a write that is begun now is a host's
  pub began : (u : ℕ) → hist.kind u ≡ write_k → ((h.kind u ≡ write_k) × (hist.value u ≡ h.value u)) ⊎ Trying b t' u (hist.value u)

-- no outcome is a read done
pub none_done : (j b v : ℕ) → Outcome.None ≡ Outcome.ReadDone j b v → ⊥
none_done j b v q = let z : ◌≡◌ {A = ℕ} 0 1 = cc in omega arith

-- an event that the history does not note
pub unnoted : (b : ℕ) (h : Hist) (t t' : Table) → Good b h t' → Next b h t [] Outcome.None t'
unnoted b h t t' g = record {
  hist = h;
  good = g;
  listed = refl;
  kept = λ u v z. z;
  done = λ j v q. absurd (none_done j b v q);
  began = λ u q. inl (q, refl);
}
