-- What the proofs of engine cite: what each way of an event answers and leaves is the rules' step
use Rattle.std.specs.Prelude.{Result, Ok, Err}
use Prim.Native.Nat.{ℕ, ◌<◌, ◌≤◌}
use mathlib.Core.Path.{◌≡◌, refl, sym, ap, ◌∙◌}
use mathlib.Core.Bool.{Bool, true, false, cond, true≢false}
use mathlib.Core.List.{List}
use native.Mathlib.Omega.{arith}
use Rattle.std.proofs.lemmas.Bool.Decides.{nat_tests}
use Rattle.std.proofs.lemmas.List.{get_or_default}
use lib.Dec.{eqb}
use lib.ListN.{length, get_or}
use borrow.Author.Tests.{eqb-true, eqb-false, lt-ltb, leb-true}
use Rattle.rules.specs.declared.Table.{Table}
use Rattle.rules.specs.declared.Event.{Event}
use Rattle.rules.specs.declared.Answer.{Answer}
use Rattle.rules.specs.declared.Outcome.{Outcome}
use Rattle.rules.specs.declared.Refused.{Refused}
use Rattle.rules.specs.Chunks.{fail_refusals, failed}
use Rattle.rules.specs.Codes.{Row, code_of, number_of, refused_by, ruled, reply_by}
use Rattle.rules.specs.Events.{Effect, quietly, done, refused, without_waiting, epoch_refusals, kind_of, ranges, rule_of, step, reply_of}
use Rattle.rules.specs.Formed.{well_formed}
use Rattle.rules.specs.Limits.{chunk_limit, block_limit, greatest_clock}
use Rattle.rules.specs.Tables.{host_of, chunk_of, at, record_of, with_chunk, with_records}
use Rattle.rules.specs.Timestamps.{next}
use Rattle.rules.specs.Words.{place}
use Rattle.rules.specs.Zero.{zero_record, zero_chunk, zero_host, no_host, no_chunk, no_record}
use Rattle.rules.proofs.Events.{code_0_to_8, ill_formed, out_of_range, refused-own, granted-own}
use Rattle.rules.proofs.Formed.{formed}
use Rattle.chunk_fault.specs.Steps.{failed_to}
use Rattle.epoch_lent.specs.Steps.{changed, changed_to}
use Rattle.event_operands.specs.declared.Step.{Step}
use Rattle.event_operands.specs.Steps.{number_of_step, step_named}
use Rattle.event_operands.proofs.Laws.{number-named, unknown-outside}
use Rattle.event_parts.specs.declared.Acted.{Acted}
use Rattle.event_parts.specs.Acts.{granting, acted}
use Rattle.event_lent.specs.declared.Here.{Here}
use Rattle.event_lent.specs.Touches.{removed_at, here_in, parts_in, keeping, storing, left_of, acted_on}
use Rattle.engine.proofs.Touches.{slot_here, host_here, chunk_here, block_here, parts_of, effect_of}
use Rattle.engine.proofs.PartLaws.{Acts, acts, host-below, chunk-below, block-below}

-- ---- a refusal's number

-- each code of a refusal is the number of the one that it names
pub number-back : (code : ℕ) → (code ≡ 0 → ⊥) → code ≤ 8 → number_of (refused_by code) ≡ code
number-back code some most = grind (arith, nat_tests)

-- ---- an answer, as the reply and the table that is left

abbrev Steps : Table → Event → Result Outcome Refused → Table → Type 0
Steps t e r z = (reply_by r ≡ reply_of (step t e)) × (z ≡ (step t e).table)

-- "new table, outcome" or "same table, zeros"
abbrev answer_by : Table → Result Effect Refused → Answer
answer_by t (Ok x) = done x
answer_by t (Err why) = refused t (number_of why)

steps : (t : Table) (e : Event) (x : Result Effect Refused) → answer_by t x ≡ step t e → Steps t e (granting (λ y. y.outcome) x) (left_of t x)
steps t e (Ok x) is = (ap reply_of is, ap (λ (a : Answer). a.table) is)
steps t e (Err why) is = (ap reply_of is, ap (λ (a : Answer). a.table) is)

-- ---- code 8, and the ranges

pub malformed_way : (t : Table) (e : Event) → well_formed t ≡ false → Steps t e (Err Refused.NotFormed) t
malformed_way t e h = steps t e (Err Refused.NotFormed) (ill_formed t e h)

pub outside_way : (t : Table) (e : Event) → well_formed t ≡ true → ranges t.creation e ≡ false → Steps t e (Err Refused.OutOfRange) t
outside_way t e ok far = steps t e (Err Refused.OutOfRange) (out_of_range t e ok far)

-- ---- an event that has its own refusals and effect

module _ (t : Table) (e : Event) (ok : well_formed t ≡ true) (inside : ranges t.creation e ≡ true) where
  ruled-own : answer_by t (ruled (rule_of t e).refusals (rule_of t e).effect) ≡ step t e
  ruled-own = go (eqb code 0) refl
    where
      code : ℕ
      code = code_of (rule_of t e).refusals

      go : (g : Bool) → eqb code 0 ≡ g → answer_by t (cond g (Ok (rule_of t e).effect) (Err (refused_by code))) ≡ step t e
      go true h = granted-own t e ok inside (eqb-true code 0 h)
      go false h =
          let own = refused-own t e ok inside code refl (eqb-false code 0 h) in
          let most : code ≤ 8 = rw (sym (ap (λ (a : Answer). a.code) own)) at (code_0_to_8 t e) in
          ap (refused t) (number-back code (eqb-false code 0 h) most) ∙ own

  -- .. on the parts that it touches: what is granted is stored, and what is refused leaves the table
  module _ (x : Acts t e) where
    pub stored_is : (left : Acted) → acted e (parts_of t e) ≡ Ok left → done (effect_of t e left) ≡ step t e
    stored_is left is = ap (answer_by t) (sym (ap (granting (effect_of t e)) is) ∙ x) ∙ ruled-own

    pub refused_is : (why : Refused) → acted e (parts_of t e) ≡ Err why → refused t (number_of why) ≡ step t e
    refused_is why is = ap (answer_by t) (sym (ap (granting (effect_of t e)) is) ∙ x) ∙ ruled-own

  -- .. and no outcome
  quiet_way : (rows : List Row) → rows ≡ (rule_of t e).refusals → (new : Table) → quietly new ≡ (rule_of t e).effect
      → (r : Result (Unit {0}) Refused) (z : Table) → (r ≡ ruled rows tt) × (z ≡ cond (eqb (code_of rows) 0) new t) → Steps t e (granting (λ _. Outcome.None) r) z
  quiet_way rows same new new_is r z done_so =
      let own : answer_by t (ruled rows (quietly new)) ≡ step t e = rw (same, new_is) ruled-own in
      rw (done_so.0, done_so.1) (go (eqb (code_of rows) 0) own)
    where
      go : (g : Bool) → answer_by t (cond g (Ok (quietly new)) (Err (refused_by (code_of rows)))) ≡ step t e
          → Steps t e (granting (λ _. Outcome.None) (cond g (Ok (tt {0})) (Err (refused_by (code_of rows))))) (cond g new t)
      go true own = steps t e (Ok (quietly new)) own
      go false own = steps t e (Err (refused_by (code_of rows))) own

  pub fail_way : step_named e.kind ≡ Ok Step.Fail → (r : Result (Unit {0}) Refused) (z : Table)
      → (r ≡ ruled (fail_refusals (chunk_of t e.a).state) tt) × (z ≡ failed_to e.a t) → Steps t e (granting (λ _. Outcome.None) r) z
  unfolding rule_of kind_of place
  fail_way named =
      let kind : e.kind ≡ 11 = number-named e.kind Step.Fail named in
      quiet_way (fail_refusals (chunk_of t e.a).state) (rw kind refl) (with_records (with_chunk t e.a (failed (chunk_of t e.a))) (without_waiting t.records e.a)) (rw kind refl)

  pub change_way : step_named e.kind ≡ Ok Step.EpochChange → (r : Result (Unit {0}) Refused) (z : Table)
      → (r ≡ ruled (epoch_refusals t.creation t.epoch t.chunks) tt) × (z ≡ changed_to (next t.epoch) t) → Steps t e (granting (λ _. Outcome.None) r) z
  unfolding rule_of kind_of place
  change_way named =
      let kind : e.kind ≡ 15 = number-named e.kind Step.EpochChange named in
      quiet_way (epoch_refusals t.creation t.epoch t.chunks) (rw kind refl) (changed (next t.epoch) t) (rw kind refl)

pub epoch-fits : (t : Table) → well_formed t ≡ true → t.epoch.0 ≤ 4294967295
epoch-fits t ok = leb-true t.epoch.0 greatest_clock (formed t ok).epoch

-- ---- an event on the parts that it touches

module _ (t : Table) (e : Event) (ok : well_formed t ≡ true) (near : ranges t.creation e ≡ true)
    (hosts : length t.hosts ≡ 8) (chunks : length t.chunks ≡ 8) (records : length t.records ≡ 128) (places : length t.places ≡ 64) where
  abbrev i : ℕ
  i = host_here t e

  abbrev c : ℕ
  c = chunk_here t e

  abbrev b : ℕ
  b = block_here t e

  host-here : get_or t.hosts i zero_host ≡ host_of t i
  host-here = get_or_default t.hosts i zero_host no_host (rw hosts (host-below t e ok near))

  abbrev chunk_in : c < chunk_limit
  chunk_in = chunk-below t e ok near

  abbrev block_in : b < block_limit
  block_in = block-below t e ok near

  chunk-here : get_or t.chunks c zero_chunk ≡ chunk_of t c
  chunk-here = get_or_default t.chunks c zero_chunk no_chunk (rw chunks chunk_in)

  record_here : get_or t.records (at c b) zero_record ≡ record_of t c b
  record_here = get_or_default t.records (at c b) zero_record no_record (let x = chunk_in in let y = block_in in rw records (omega arith))

  abbrev here : Here
  here = record { slot = slot_here t e; host = i; chunk = c; block = b; «record» = at c b; place = removed_at e }

  here_is : here_in t e ≡ here
  unfolding here_in
  here_is = rw (host-here, lt-ltb c chunk_limit chunk_in, lt-ltb b block_limit block_in) refl

  parts_are : parts_in t here ≡ parts_of t e
  unfolding parts_in
  parts_are = rw (host-here, chunk-here, record_here, lt-ltb b block_limit block_in) refl

  acted_on_ruled : (s : Step) → step_named e.kind ≡ Ok s → (s ≡ Step.Fail → ⊥) → (s ≡ Step.EpochChange → ⊥)
      → acted_on t e ≡ ruled (rule_of t e).refusals (rule_of t e).effect
  unfolding acted_on storing keeping
  acted_on_ruled s named other others =
      rw (here_is, parts_are) (acts t e ok near s (number-named e.kind s named) other others)

  pub act_way : (s : Step) → step_named e.kind ≡ Ok s → (s ≡ Step.Fail → ⊥) → (s ≡ Step.EpochChange → ⊥)
      → (r : Result Outcome Refused) (z : Table) → (r ≡ granting (λ y. y.outcome) (acted_on t e)) × (z ≡ left_of t (acted_on t e)) → Steps t e r z
  act_way s named other others r z done_so =
      rw (done_so.0, done_so.1) (steps t e (acted_on t e) (ap (answer_by t) (acted_on_ruled s named other others) ∙ ruled-own t e ok near))

  -- the event on parts is the rules' step
  pub acted_on_is : (e.kind ≡ 11 → ⊥) → (e.kind ≡ 15 → ⊥) → answer_by t (acted_on t e) ≡ step t e
  acted_on_is no_fail no_change = go (step_named e.kind) refl
    where
      go : (r : Result Step Refused) → step_named e.kind ≡ r → answer_by t (acted_on t e) ≡ step t e
      go (Ok s) named =
          let kind = number-named e.kind s named in
          ap (answer_by t) (acted_on_ruled s named (λ is. no_fail (kind ∙ ap number_of_step is)) (λ is. no_change (kind ∙ ap number_of_step is))) ∙ ruled-own t e ok near
      go (Err why) named = absurd (true≢false (sym near ∙ unknown-outside t.creation e why named))
