-- Runs: the history that belongs to a list of events, and its list
use Prim.Native.Nat.{ℕ}
use mathlib.Core.Path.{◌≡◌, refl, sym, subst, subst⁻¹, ◌∙◌, ap}
use mathlib.Core.Logic.{◌⊎◌, inl, inr}
use mathlib.Core.Bool.{true}
use mathlib.Core.List.{List, [], ◌∷◌, ◌++◌, append_assoc}
use Rattle.one_copy.specs.Types.{Creation, Table, Event}
use Rattle.one_copy.specs.Listed.{Write, committed_at, committed}
use Rattle.rules.specs.Events.{step}
use Rattle.rules.specs.Runs.{after}
use Rattle.rules.specs.Tables.{is_block}
use Rattle.rules.proofs.Begun.{after-append}
use Rattle.one_copy.proofs.Abs.{write_k}
use Rattle.one_copy.proofs.Lists.{Any, any_append, any_left, any_right}
use Rattle.one_copy.proofs.View.{Hist, IsIt}
use Rattle.one_copy.proofs.Good.{Trying}
use Rattle.one_copy.proofs.Steps.{Whole, Stepped, step_kept}

-- what one list of events commits after another
pub committed-append : (b : ℕ) (t : Table) (es fs : List Event)
    → committed b t (es ++ fs) ≡ committed b t es ++ committed b (after t es) fs
unfolding after committed
committed-append b t [] fs = refl
committed-append b t (e ∷ es) fs = ap (λ (l : List Write). committed_at b t e (step t e) ++ l) (committed-append b (step t e).table es fs)
    ∙ sym (append_assoc (committed_at b t e (step t e)) (committed b (step t e).table es) (committed b (after (step t e).table es) fs))

-- ---- a run from a good table with history h: hist is the history that it ends with

-- somewhere in the run a host was at this write
abbrev pub Tried : (b : ℕ) → Table → List Event → (u v : ℕ) → Type 0
Tried b t es u v = (fs gs : List Event) × (es ≡ fs ++ gs) × Trying b (after t fs) u v

pub record Run (b : ℕ) (h : Hist) (t : Table) (es : List Event) (hist : Hist) : Type 0 where
  pub blk : ℕ → ℕ
  pub whole : Whole b hist blk (after t es)
  pub to : (u v : ℕ) → Any (IsIt u v) hist.listed → Any (IsIt u v) h.listed ⊎ Any (IsIt u v) (committed b t es)
  pub from : (u v : ℕ) → Any (IsIt u v) h.listed ⊎ Any (IsIt u v) (committed b t es) → Any (IsIt u v) hist.listed
  pub kept : (u v : ℕ) → Any (IsIt u v) h.reads → Any (IsIt u v) hist.reads
  pub began : (u : ℕ) → hist.kind u ≡ write_k → ((h.kind u ≡ write_k) × (hist.value u ≡ h.value u)) ⊎ Tried b t es u (hist.value u)
  pub creation : (after t es).creation ≡ t.creation

module _ (b : ℕ) where
  -- an event more in front
  pub goes_on : (h : Hist) (t : Table) (e : Event) (es : List Event) (s : Stepped b h t e (step t e)) (hist : Hist)
      → Run b s.next.hist (step t e).table es hist → Run b h t (e ∷ es) hist
  unfolding after committed
  goes_on h t e es s hist r = record {
    blk = r.blk;
    whole = r.whole;
    to = λ u v z. elim (r.to u v z) [
      | inl y ↦ elim (any_append (IsIt u v) now h.listed (subst (Any (IsIt u v)) s.next.listed y)) [
        | inl x ↦
            inr (any_left (IsIt u v) now rest x)
        | inr x ↦ inl x
      ]
      | inr y ↦ inr (any_right (IsIt u v) now rest y)
    ];
    from = λ u v. elim [
      | inl z ↦ r.from u v (inl (subst⁻¹ (Any (IsIt u v)) s.next.listed (any_right (IsIt u v) now h.listed z)))
      | inr z ↦ r.from u v (elim (any_append (IsIt u v) now rest z) [
        | inl x ↦
            inl (subst⁻¹ (Any (IsIt u v)) s.next.listed (any_left (IsIt u v) now h.listed x))
        | inr x ↦ inr x
      ])
    ];
    kept = λ u v z. r.kept u v (s.next.kept u v z);
    began = λ u q. elim (r.began u q) [
      | inl y ↦ elim (s.next.began u y.0) [
        | inl x ↦ inl (x.0, y.1 ∙ x.1)
        | inr x ↦ inr (e ∷ [], es, refl, subst⁻¹ (Trying b (step t e).table u) y.1 x)
      ]
      | inr y ↦ inr (e ∷ y.0, y.1, ap (λ (l : List Event). e ∷ l) y.2, y.3)
    ];
    creation = r.creation ∙ s.creation;
  }
    where
      now : List Write
      now = committed_at b t e (step t e)

      rest : List Write
      rest = committed b (step t e).table es

  -- no event more
  pub ends : (h : Hist) (blk : ℕ → ℕ) (t : Table) → Whole b h blk t → Run b h t [] h
  unfolding after committed
  ends h blk t i = record {
    blk = blk;
    whole = i;
    to = λ u v z. inl z;
    from = λ u v. elim [ inl z ↦ z | inr z ↦ absurd z ];
    kept =
        λ u v z. z;
    began = λ u q. inl (q, refl);
    creation = refl;
  }

  -- what an event leaves is whole
  pub whole-after : (h : Hist) (t : Table) (e : Event) (s : Stepped b h t e (step t e)) → Whole b s.next.hist s.blk (step t e).table
  whole-after h t e s = record { good = s.next.good; homes = s.homes; shape = s.shape }

  -- the block is one of the store's still
  pub block-after : (h : Hist) (t : Table) (e : Event) → is_block t.creation b ≡ true → (s : Stepped b h t e (step t e))
      → is_block (step t e).table.creation b ≡ true
  block-after h t e lb s = subst⁻¹ (λ (k : Creation). is_block k b ≡ true) s.creation lb

  -- every list of events
  pub run : (es : List Event) (h : Hist) (blk : ℕ → ℕ) (t : Table) → is_block t.creation b ≡ true → Whole b h blk t → (hist : Hist)
      × Run b h t es hist
  run [] h blk t lb i = (h, ends h blk t i)
  run (e ∷ es) h blk t lb i =
      let s = step_kept b h blk t lb i e in
      let r = run es s.next.hist s.blk (step t e).table (block-after h t e lb s) (whole-after h t e s) in
      (r.0, goes_on h t e es s r.0 r.1)

  -- a run after a run
  pub appended : (h : Hist) (t : Table) (es fs : List Event) (mid last : Hist) → Run b h t es mid → Run b mid (after t es) fs last
      → Run b h t (es ++ fs) last
  appended h t es fs mid last r q = record {
    blk = q.blk;
    whole = subst⁻¹ (Whole b last q.blk) (after-append t es fs) q.whole;
    to = λ u v z. subst⁻¹ (λ (l : List Write). Any (IsIt u v) h.listed ⊎ Any (IsIt u v) l) (committed-append b t es fs)
        (elim (q.to u v z) [
          | inl y ↦ elim (r.to u v y) [ inl x ↦ inl x | inr x ↦ inr (any_left (IsIt u v) (committed b t es) (committed b (after t es) fs) x) ]
          | inr y ↦ inr (any_right (IsIt u v) (committed b t es) (committed b (after t es) fs) y)
        ]);
    from = λ u v. elim [
      | inl z ↦ q.from u v (inl (r.from u v (inl z)))
      | inr z ↦ q.from u v (elim (any_append (IsIt u v) (committed b t es) (committed b (after t es) fs)
          (subst (Any (IsIt u v)) (committed-append b t es fs) z)) [ inl x ↦ inl (r.from u v (inr x)) | inr x ↦ inr x ])
    ];
    kept = λ u v z. q.kept u v (r.kept u v z);
    began = λ u z. elim (q.began u z) [
      | inl y ↦ elim (r.began u y.0) [
        | inl x ↦ inl (x.0, y.1 ∙ x.1)
        | inr x ↦ inr (
          x.0,
          x.1 ++ fs,
          ap (λ (l : List Event). l ++ fs) x.2 ∙ append_assoc x.0 x.1 fs,
          subst⁻¹ (Trying b (after t x.0) u) y.1 x.3,
        )
      ]
      | inr y ↦ inr (
        es ++ y.0,
        y.1,
        ap (λ (l : List Event). es ++ l) y.2 ∙ sym (append_assoc es y.0 y.1),
        subst⁻¹ (λ (t : Table). Trying b t u (last.value u)) (after-append t es y.0) y.3,
      )
    ];
    creation = ap (λ (x : Table). x.creation) (after-append t es fs) ∙ q.creation ∙ r.creation;
  }
