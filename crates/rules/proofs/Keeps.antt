-- Every event keeps well-formedness, so code 8 never comes from a fresh store
use Prim.Native.Nat.{ℕ, ◌*◌}
use mathlib.Core.Path.{◌≡◌, refl}
use mathlib.Core.Bool.{Bool, true, false, cond, ◌&&◌}
use mathlib.Core.List.{List, [], ◌∷◌}
use native.Mathlib.Omega.{arith}
use lib.ListN.{get_or-replicate}
use lib.Dec.{eqb}
use borrow.Author.Tests.{eqb-true}
use Rattle.rules.specs.Types.{Creation, Table, Event, Answer}
use Rattle.rules.specs.Codes.{code_of}
use Rattle.rules.specs.Creation.{is_creation, first_epoch, fresh_chunk, fresh_host, fresh}
use Rattle.rules.specs.Events.{kind_of, ranges, rule_of, rows, step}
use Rattle.rules.specs.Formed.{host_formed, chunk_formed, record_formed, well_formed}
use Rattle.rules.specs.Limits.{host_limit, chunk_limit, block_limit, place_limit}
use Rattle.rules.specs.Runs.{after}
use Rattle.rules.specs.Tables.{is_host, is_chunk, is_block, at}
use Rattle.rules.specs.Words.{every, some, place, from}
use Rattle.rules.specs.Zero.{zero_record, is_zero_record, zero_chunk, is_zero_chunk, zero_host, is_zero_host, zero_place, zero_table, no_record, no_chunk, no_host}
use Rattle.rules.proofs.Lists.{◌&◌, end, walk, each_number}
use Rattle.rules.proofs.Events.{by_kind, rows-granted, step-most}
use Rattle.rules.proofs.Formed.{formed, well_formed_lem}
use Rattle.rules.proofs.KeepsParts.{Keeps}
use Rattle.rules.proofs.KeepsHosts.{read_kept, write_kept, start_kept, finish_kept, timeout_kept, refresh_kept, stop_kept}
use Rattle.rules.proofs.KeepsChunks.{deliver-kept, drop-kept, run-kept, fail-kept, recover_kept, take_lease_kept, give_lease_kept, overdue-kept}
use Rattle.rules.proofs.KeepsEpoch.{epoch-kept}

-- ---- the parts of the fresh table: a fresh one of the store's, else zero

module _ (k : Creation) where
  fresh-host-at : (x : Bool) → cond x (host_formed k (cond x fresh_host zero_host)) (is_zero_host (cond x fresh_host zero_host)) ≡ true
  unfolding every some from
  fresh-host-at true = refl
  fresh-host-at false = refl

  fresh-chunk-at : (x : Bool)
      → cond x (chunk_formed k first_epoch (cond x fresh_chunk zero_chunk)) (is_zero_chunk (cond x fresh_chunk zero_chunk)) ≡ true
  unfolding every some from
  fresh-chunk-at true = refl
  fresh-chunk-at false = refl

  fresh_record_at : (x : Bool) → cond x (record_formed k zero_record) (is_zero_record zero_record) ≡ true
  unfolding every from
  fresh_record_at true = refl
  fresh_record_at false = refl

-- ---- the events: each keeps well-formedness

kind-keeps : (t : Table) (n : ℕ) → Keeps t (kind_of n)
unfolding kind_of place
kind-keeps t n =
    by_kind (Keeps t) n (
    (λ _. read_kept t)
    & (λ _. write_kept t)
    & (λ _. start_kept t)
    & (λ _. deliver-kept t)
    & (λ _. drop-kept t)
    & (λ _. finish_kept t)
    & (λ _. timeout_kept t)
    & (λ _. refresh_kept t)
    & (λ _. run-kept t)
    & (λ _. stop_kept t)
    & (λ _. fail-kept t)
    & (λ _. recover_kept t)
    & (λ _. take_lease_kept t)
    & (λ _. give_lease_kept t)
    & (λ _. epoch-kept t)
    & (λ _. overdue-kept t)
    & end) (λ _ _ _ f _ _. f)

-- ---- the theorems

-- the fresh table of every granted creation is well formed
pub fresh-formed : (k : Creation) → is_creation k ≡ true → well_formed (fresh k) ≡ true
unfolding fresh
fresh-formed k h = well_formed_lem (fresh k) (record {
  creation = h;
  epoch = refl;
  hosts = λ i l. rw (each_number (λ i. cond (is_host k i) fresh_host zero_host) host_limit i no_host l) (fresh-host-at k (is_host k i));
  chunks = λ c l. rw (each_number (λ c. cond (is_chunk k c) fresh_chunk zero_chunk) chunk_limit c no_chunk l) (fresh-chunk-at k (is_chunk k c));
  records = λ c b l m. rw (get_or-replicate (chunk_limit * block_limit) (at c b) zero_record no_record (omega arith))
      (fresh_record_at k (is_chunk k c && is_block k b));
  places = λ p l. rw (get_or-replicate place_limit p zero_place zero_place l) refl;
})

-- a refused creation's table is no store
pub no_store : well_formed zero_table ≡ false
unfolding well_formed is_creation
no_store = refl

-- every event, granted or refused, keeps well-formedness
pub step-formed : (t : Table) (e : Event) → well_formed t ≡ true → well_formed (step t e).table ≡ true
unfolding step ranges rule_of
step-formed t e h =
    walk (λ (a : Answer). well_formed a.table ≡ true) (eqb (code_of (rows t e)) 0) _ _ (λ done.
    let own = rows-granted t e (eqb-true (code_of (rows t e)) 0 done) in
    well_formed_lem (rule_of t e).effect.table (kind-keeps t e.kind e.a e.b e.c (formed t h) own.1 own.2))
    (λ _. h)

-- a well-formed table stays well formed
after-formed : (t : Table) (es : List Event) → well_formed t ≡ true → well_formed (after t es) ≡ true
unfolding after
after-formed t [] h = h
after-formed t (e ∷ es) h = after-formed (step t e).table es (step-formed t e h)

-- a fresh store stays well formed
pub run-formed : (k : Creation) → is_creation k ≡ true → (es : List Event) → well_formed (after (fresh k) es) ≡ true
run-formed k h es = after-formed (fresh k) es (fresh-formed k h)

-- code 8 never comes from a fresh store
pub never_8 : (k : Creation) → is_creation k ≡ true → (es : List Event) (e : Event) → (step (after (fresh k) es) e).code ≡ 8 → ⊥
never_8 k h es e c = omega (arith, step-most (after (fresh k) es) e (run-formed k h es))
