-- What holds of every event: its code is its first refusal's, and a refusal changes nothing
use Prim.Native.Nat.{ℕ, ◌≤◌}
use mathlib.Core.Path.{◌≡◌, refl, sym, ap, ◌∙◌}
use mathlib.Core.Logic.{◌↔◌}
use mathlib.Core.Bool.{Bool, true, false, cond, not}
use native.Mathlib.Omega.{arith}
use lib.Dec.{eqb}
use borrow.Author.Tests.{le-leb, ne_eqb, eqb-true}
use Rattle.rules.specs.Types.{Creation, Table, Event}
use Rattle.rules.specs.Codes.{Row, code_of}
use Rattle.rules.specs.Creation.{is_creation, fresh, created}
use Rattle.rules.specs.Formed.{well_formed}
use Rattle.rules.specs.Events.{EventKind, event_kinds, unknown_kind, kind_of, ranges, rule_of, rows, done, refused, step}
use Rattle.rules.specs.Limits.{one_to}
use Rattle.rules.specs.Words.{Numbered, every}
use Rattle.rules.specs.Zero.{zero_table}
use Rattle.rules.proofs.Lists.{All, and_true, every_so, under-number, under-every}
use Rattle.rules.proofs.Formed.{one-to}
use Rattle.rules.proofs.Refusals.{First, Free, coded, code-most, refused_exactly, granted_exactly}

-- ---- what holds of each kind under its number, and of an unknown one, holds of an event's

pub by_kind : (P : EventKind → Type 0) (n : ℕ) → All (λ (x : Numbered EventKind). n ≡ x.number → P x.entry) event_kinds → P unknown_kind → P (kind_of n)
unfolding kind_of
by_kind P n = under-number unknown_kind n P event_kinds

-- ---- an answer's code

-- the refusals of a rule have codes from 1 to 7
rule_codes : (t : Table) (e : Event) → coded 7 (rule_of t e).refusals ≡ true
unfolding every kind_of rule_of
rule_codes t e = under-every unknown_kind e.kind (λ (k : EventKind). coded 7 (k.rule t e.a e.b e.c).refusals) event_kinds refl refl

module _ (t : Table) (e : Event) where
  -- .. so an event's have codes from 1 to 8
  rows-coded : coded 8 (rows t e) ≡ true
  unfolding every rows
  rows-coded = every_so (λ (r : Row). one_to 8 r.code) (λ (r : Row). one_to 7 r.code) (λ r h. let k = one-to 7 r.code h in and_true _ _ (le-leb 1 r.code k.0) (le-leb r.code 8 (omega (arith, k.1)))) (rule_of t e).refusals (rule_codes t e)

  pub step-code : (step t e).code ≡ code_of (rows t e)
  unfolding step
  step-code = go (code_of (rows t e)) (eqb (code_of (rows t e)) 0) refl
    where
      go : (k : ℕ) (b : Bool) → eqb k 0 ≡ b → (cond b (done (rule_of t e).effect) (refused t k)).code ≡ k
      go k true h = sym (eqb-true k 0 h)
      go k false h = refl

  pub step-refused : (code_of (rows t e) ≡ 0 → ⊥) → step t e ≡ refused t (code_of (rows t e))
  unfolding step
  step-refused n = rw (ne_eqb (code_of (rows t e)) 0 n) refl

  pub step-granted : code_of (rows t e) ≡ 0 → step t e ≡ done (rule_of t e).effect
  unfolding step
  step-granted h = rw h refl

  -- what a granted event's rows say: a well-formed table, operands in range, and none of its own refusals
  pub rows-granted : code_of (rows t e) ≡ 0 → (well_formed t ≡ true) × (ranges t.creation e ≡ true) × (code_of (rule_of t e).refusals ≡ 0)
  unfolding rows code_of
  rows-granted = go (well_formed t) (ranges t.creation e)
    where
      go : (b c : Bool) → cond (not b) 8 (cond (not c) 1 (code_of (rule_of t e).refusals)) ≡ 0 → (b ≡ true) × (c ≡ true) × (code_of (rule_of t e).refusals ≡ 0)
      go true true h = (refl, refl, h)
      go true false h = absurd (omega arith)
      go false c h = absurd (omega arith)

  -- "A refused event leaves the table exactly as found and its other answer fields zero"
  pub refusal_changes_nothing : ((step t e).code ≡ 0 → ⊥) → step t e ≡ refused t (step t e).code
  refusal_changes_nothing n = step-refused (λ z. n (step-code ∙ z)) ∙ ap (refused t) (sym step-code)

  -- "ends with one of the codes in document 01"
  pub code_0_to_8 : (step t e).code ≤ 8
  code_0_to_8 = rw step-code (code-most 8 (rows t e) rows-coded)

  -- "each refusal comes in its listed situation and in no other"
  pub refusal_exactly : (k : ℕ) → (k ≡ 0 → ⊥) → ((step t e).code ≡ k) ↔ First (rows t e) k
  refusal_exactly k n = rw step-code (refused_exactly (rows t e) rows-coded k n)

  pub grant_exactly : ((step t e).code ≡ 0) ↔ Free (rows t e)
  grant_exactly = rw step-code (granted_exactly (rows t e) rows-coded)

  -- ---- the ways through an event, as code takes them

  pub ill_formed : well_formed t ≡ false → refused t 8 ≡ step t e
  unfolding step rows code_of
  ill_formed h = rw h refl

  module _ (ok : well_formed t ≡ true) where
    pub out_of_range : ranges t.creation e ≡ false → refused t 1 ≡ step t e
    unfolding step rows code_of
    out_of_range h = rw (ok, h) refl

    module _ (inside : ranges t.creation e ≡ true) where
      own : code_of (rows t e) ≡ code_of (rule_of t e).refusals
      unfolding rows code_of
      own = rw (ok, inside) refl

      pub refused-own : (k : ℕ) → k ≡ code_of (rule_of t e).refusals → (k ≡ 0 → ⊥) → refused t k ≡ step t e
      refused-own k h n =
          let e : code_of (rows t e) ≡ k = own ∙ sym h in
          sym (rw e at (step-refused (λ z. n (sym e ∙ z))))

      pub granted-own : code_of (rule_of t e).refusals ≡ 0 → done (rule_of t e).effect ≡ step t e
      granted-own h = sym (step-granted (own ∙ h))

    -- a well-formed table is answered with 7 at most
    pub step-most : (step t e).code ≤ 7
    unfolding rows code_of
    step-most = rw (step-code, ok) (go (ranges t.creation e))
      where
        go : (b : Bool) → cond (not b) 1 (code_of (rule_of t e).refusals) ≤ 7
        go true = code-most 7 (rule_of t e).refusals (rule_codes t e)
        go false = omega arith

-- ---- "Any other creation is refused with code 1 and gives no store"

module _ (k : Creation) where
  pub creation-granted : is_creation k ≡ true → created k ≡ record { table = fresh k; code = 0 }
  unfolding created code_of
  creation-granted h = rw h refl

  pub creation-refused : is_creation k ≡ false → created k ≡ record { table = zero_table; code = 1 }
  unfolding created code_of
  creation-refused h = rw h refl
