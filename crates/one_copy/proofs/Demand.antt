-- The mirrors answer as one plain copy: demand 3 proved
use Prim.Native.Nat.{ℕ, ◌≤◌}
use mathlib.Core.Path.{◌≡◌, refl, sym, subst, subst⁻¹, ◌∙◌, ap}
use mathlib.Core.Logic.{◌⊎◌, inl, inr}
use mathlib.Core.Bool.{Bool, true}
use mathlib.Core.List.{List, [], ◌∷◌, ◌++◌}
use native.Mathlib.Omega.{arith}
use lib.ListN.{get_or}
use borrow.Author.Tests.{ltb-true, lt-ltb}
use Rattle.one_copy.specs.Types.{Timestamp, Creation, Table, Event, Outcome}
use Rattle.one_copy.specs.Listed.{Write, write, held_by, committed_at, committed, listed, rising, last, last_before, is_attempt}
use Rattle.one_copy.specs.OneCopy.{OneCopy}
use Rattle.rules.specs.Creation.{is_creation, fresh}
use Rattle.rules.specs.Events.{step}
use Rattle.rules.specs.Runs.{after, told, Begun, begun, last_of}
use Rattle.rules.specs.Tables.{is_chunk, is_block, set_of, host_of, record_of}
use Rattle.rules.specs.Timestamps.{never, ◌below◌}
use Rattle.rules.specs.Words.{those, every}
use Rattle.rules.specs.Zero.{◌among◌}
use Rattle.rules.proofs.Begun.{all-distinct, tells_of_last}
use Rattle.rules.proofs.Lists.{and_true}
use Rattle.one_copy.proofs.Abs.{idle≢write_k}
use Rattle.one_copy.proofs.Lists.{Any, any_map, any_at, any_left, any_right, any_out, any_those, those_any, any_some}
use Rattle.one_copy.proofs.Folds.{top-all, top_is}
use Rattle.one_copy.proofs.View.{Hist, Part, part_of, IsW, IsIt, IsTs}
use Rattle.one_copy.proofs.Hosts.{of_it}
use Rattle.one_copy.proofs.Shapes.{fresh-shape}
use Rattle.one_copy.proofs.Fresh.{no_hist, fresh-good, fresh-homes}
use Rattle.one_copy.proofs.Good.{In}
use Rattle.one_copy.proofs.EvEpoch.{changed-part}
use Rattle.one_copy.proofs.Steps.{Whole, Stepped, step_kept, changed}
use Rattle.one_copy.proofs.History.{Run, committed-append, goes_on, ends, whole-after, block-after, run, appended}
use Rattle.one_copy.proofs.Listing.{all_in, all_there, all_rises}
use Rattle.one_copy.proofs.Attempts.{done-read, done-write, tried-begun}

-- ---- lists

-- a timestamp in a list has a value there
with_value_lem : (u : ℕ) (l : List Write) → Any (IsTs u) l → (v : ℕ) × Any (IsIt u v) l
with_value_lem u l h = any_out (λ v w. IsIt u v w) l (any_map (IsTs u) (λ w. (v : ℕ) × IsIt u v w) (λ w z. (w.value, (z, refl))) l h)

-- what is so of each write of a list is so of all
every_any : (p : Write → Bool) (l : List Write) → ((u v : ℕ) → Any (IsIt u v) l → p (write (record { 0 = u }) v) ≡ true) → every p l ≡ true
unfolding every
every_any p [] f = refl
every_any p (w ∷ l) f = and_true (p w) (every p l) (f w.timestamp.0 w.value (inl (refl, refl)))
    (every_any p l (λ u v z. f u v (inr z)))

-- the last of a list is told by what bounds it: x under top
is_last_lem : (value : ℕ → ℕ) (L : ℕ → Type 0) (l : List Write) (top x : ℕ) → ((top ≡ 0) × (x ≡ 0)) ⊎ (L top × (value top ≡ x))
    → ((u : ℕ) → Any (IsTs u) l → u ≤ top) → (L top → Any (IsTs top) l) → ((u v : ℕ) → Any (IsIt u v) l → value u ≡ v)
    → (Any (IsTs 0) l → ⊥)
    → (top ≡ (last l).timestamp.0) × (x ≡ (last l).value)
is_last_lem value L l top x w most here vals no_z = elim (top_is key z l) [
  | inl e ↦ elim w [
    | inl p ↦ (p.0 ∙ sym (ap key e), p.1 ∙ sym (ap (λ (y : Write). y.value) e))
    | inr p ↦ absurd (no_z (subst (λ u. Any (IsTs u) l) (omega (arith, top-all key z l top (here p.0), ap key e)) (here p.0)))
  ]
  | inr e ↦ (
      let found = any_map (λ y. y ≡ last l) (IsIt (last l).timestamp.0 (last l).value)
      (λ y q. (ap key q, ap (λ (y : Write). y.value) q)) l e in
      let there = of_it (last l).timestamp.0 (last l).value l found in
      let m = most (last l).timestamp.0 there in
      elim w [
        | inl p ↦ absurd (no_z (subst (λ u. Any (IsTs u) l) (omega (arith, p.0)) there))
        | inr p ↦ (let d : top ≡ (last l).timestamp.0 = omega (arith, top-all key z l top (here p.0)) in
            (d, sym p.1 ∙ ap value d ∙ vals (last l).timestamp.0 (last l).value found))
      ])
]
  where
    key : Write → ℕ
    key w = w.timestamp.0

    z : Write
    z = record { timestamp = never; value = 0 }

module _ (k : Creation) (b : ℕ) (lb : is_block k b ≡ true) where
  -- the fresh store
  base : Whole b no_hist (λ _. 0) (fresh k)
  base = record { good = fresh-good k b; homes = fresh-homes k; shape = fresh-shape k }

  -- b is a block of the fresh store
  base-block : is_block (fresh k).creation b ≡ true
  unfolding fresh
  base-block = lb

  -- ---- a run from the fresh store, and the list of it

  module _ (fs : List Event) (H : Hist) (r : Run b no_hist (fresh k) fs H) where
    -- what was committed, in the order of the events, and the list
    abbrev raw : List Write
    raw = committed b (fresh k) fs

    abbrev all : List Write
    all = listed b (fresh k) fs

    -- the list and the history have the same writes
    from : (u v : ℕ) → Any (IsIt u v) all → Any (IsIt u v) H.listed
    from u v z = elim (all_in (IsIt u v) [] raw z) [ inl y ↦ absurd y | inr y ↦ r.from u v (inr y) ]

    -- and the same timestamps
    from-ts : (u : ℕ) → Any (IsTs u) all → Any (IsTs u) H.listed
    from-ts u z = let w = with_value_lem u all z in of_it u w.0 H.listed (from u w.0 w.1)

    to-ts : (u : ℕ) → Any (IsTs u) H.listed → Any (IsTs u) all
    to-ts u z =
        let w = with_value_lem u H.listed z in
        all_there u [] raw (elim (r.to u w.0 w.1) [ inl y ↦ absurd y | inr y ↦ of_it u w.0 raw y ])

    -- one value a timestamp
    valued : (u v : ℕ) → Any (IsIt u v) all → H.value u ≡ v
    valued u v z = r.whole.good.vals u v (from u v z)

    to : (u v : ℕ) → Any (IsIt u v) H.listed → Any (IsIt u v) all
    to u v z =
        let w = with_value_lem u all (to-ts u (of_it u v H.listed z)) in
        subst (λ (x : ℕ). Any (IsIt u x) all) (sym (valued u w.0 w.1) ∙ r.whole.good.vals u v z) w.1

    -- a listed write was begun, for this block and with this value
    from-begun : (u v : ℕ) → Any (IsIt u v) all → Any (λ x. is_attempt b (write (record { 0 = u }) v) x ≡ true) (begun (told (fresh k) fs))
    from-begun u v z =
        let P : ℕ → Begun → Type 0 = λ v x. is_attempt b (write (record { 0 = u }) v) x ≡ true in
        let is_w = r.whole.good.inv.glob.list_k u (of_it u v H.listed (from u v z)) in
        subst (λ (v : ℕ). Any (P v) (begun (told (fresh k) fs))) (valued u v z)
        (tried-begun k fs b u (H.value u) (elim (r.began u is_w) [ inl y ↦ absurd (idle≢write_k y.0) | inr y ↦ y ]))

    -- none is listed under 0
    no_zero : Any (IsTs 0) all → ⊥
    no_zero z = idle≢write_k (sym r.whole.good.inv.glob.zero_k ∙ r.whole.good.inv.glob.list_k 0 (from-ts 0 z))

    -- a read that was answered
    module _ (u : Timestamp) (v : ℕ) (z : Any (IsIt u.0 v) H.reads) where
      -- it carries the value of the last write listed below it
      read-value : v ≡ (last_before u all).value
      read-value =
          let p = (r.whole.good.inv.seen u.0 v (inr (inr z))).last in
          (is_last_lem H.value (λ w. Any (IsTs w) H.listed) (those (λ w. w.timestamp below u) all) p.top v p.wrote
          (λ w q. let y = any_those (λ w. w.timestamp below u) (IsTs w) all q in
          let a = any_at _ all (record { timestamp = never; value = 0 }) y in
          p.most w (from-ts w (any_map _ (IsTs w) (λ x c. c.1) all y))
          (omega (arith, a.2.1, ltb-true (get_or all a.0 (record { timestamp = never; value = 0 })).timestamp.0 u.0 a.2.0)))
          (λ q. those_any (λ w. w.timestamp below u) (IsTs p.top) all
          (any_map (IsTs p.top) _ (λ x c. (lt-ltb x.timestamp.0 u.0 (omega (arith, p.below)), c)) all (to-ts p.top q)))
          (λ w x q. valued w x (any_map _ (IsIt w x) (λ y c. c.1) all (any_those (λ w. w.timestamp below u) (IsIt w x) all q)))
          (λ q. no_zero (any_map _ (IsTs 0) (λ y c. c.1) all (any_those (λ w. w.timestamp below u) (IsTs 0) all q)))).1

  -- ---- events es, then e, then those later

  module _ (es : List Event) (e : Event) where
    -- the table that e finds
    abbrev t : Table
    t = after (fresh k) es

    -- the run that leads there
    before : (hist : Hist) × Run b no_hist (fresh k) es hist
    before = run b es no_hist (λ _. 0) (fresh k) base-block base

    -- b is a block still
    here : is_block t.creation b ≡ true
    here = subst⁻¹ (λ (k : Creation). is_block k b ≡ true) before.1.creation base-block

    -- what e leaves
    stepped : Stepped b before.0 t e (step t e)
    stepped = step_kept b before.0 before.1.blk t here before.1.whole e

    module _ (later : List Event) where
      -- the run of those later
      rest : (hist : Hist) × Run b stepped.next.hist (step t e).table later hist
      rest = run b later stepped.next.hist stepped.blk (step t e).table (block-after b before.0 t e here stepped)
          (whole-after b before.0 t e stepped)

      -- the whole run
      sequence : Run b no_hist (fresh k) (es ++ e ∷ later) rest.0
      sequence = appended b no_hist (fresh k) es (e ∷ later) before.0 rest.0 before.1
          (goes_on b before.0 t e later stepped rest.0 rest.1)

      -- a read done at e is among the answers to the end
      answered : (h v : ℕ) → (step t e).outcome ≡ Outcome.ReadDone h b v → Any (IsIt (host_of t h).attempt.timestamp.0 v) rest.0.reads
      answered h v q = rest.1.kept (host_of t h).attempt.timestamp.0 v (stepped.next.done h v q)

      -- what e commits is listed
      commits : (u v : ℕ) → Any (IsIt u v) (committed_at b t e (step t e)) → Any (IsIt u v) (listed b (fresh k) (es ++ e ∷ later))
      unfolding committed
      commits u v z = to (es ++ e ∷ later) rest.0 sequence u v (sequence.from u v (inr (subst⁻¹ (Any (IsIt u v))
          (committed-append b (fresh k) es (e ∷ later)) (any_right (IsIt u v) (committed b (fresh k) es) (committed b t (e ∷ later))
          (any_left (IsIt u v) (committed_at b t e (step t e)) (committed b (step t e).table later) z)))))

    -- right after e, a granted epoch change
    module _ (kind : e.kind ≡ 15) (granted : (step t e).code ≡ 0) where
      -- the run up to e
      so_far : Run b no_hist (fresh k) (es ++ e ∷ []) stepped.next.hist
      so_far = appended b no_hist (fresh k) es (e ∷ []) before.0 stepped.next.hist before.1
          (goes_on b before.0 t e [] stepped stepped.next.hist (ends b stepped.next.hist stepped.blk (step t e).table
          (whole-after b before.0 t e stepped)))

      -- the creation is k still
      same-creation : t.creation ≡ k
      unfolding fresh
      same-creation = before.1.creation

      -- a copy of the set holds the last write listed so far
      copy-last : (c : ℕ) → is_chunk k c ≡ true → c among set_of k b ≡ true
          → held_by (record_of (step t e).table c b) ≡ last (listed b (fresh k) (es ++ e ∷ []))
      copy-last c lc m =
          let x = changed t e kind granted in
          let held : In t.creation b c = subst⁻¹ (λ (k : Creation). In k b c) same-creation (lc, m) in
          let now : In (step t e).table.creation b c = subst⁻¹ (λ (k : Creation). In k b c) stepped.creation held in
          let o = stepped.next.good.inv.cells c now in
          let p = ap (λ (x : Table). part_of x b c) x.table ∙ changed-part b before.0 t x.formed here before.1.whole.good
          x.refusals c held in
          let q = is_last_lem stepped.next.hist.value (λ u. Any (IsTs u) stepped.next.hist.listed)
          (listed b (fresh k) (es ++ e ∷ [])) (record_of (step t e).table c b).write.0 (record_of (step t e).table c b).value
          o.held
          (λ u q. elim (o.live (ap (λ (x : Part). x.lost) p) u (from-ts (es ++ e ∷ []) stepped.next.hist so_far u q)) [
            | inl z ↦ z
            | inr z ↦ absurd (subst (Any (IsW u z.0 z.1)) (ap (λ (x : Part). x.queue) p) z.2)
          ])
          (to-ts (es ++ e ∷ []) stepped.next.hist so_far (record_of (step t e).table c b).write.0)
          (valued (es ++ e ∷ []) stepped.next.hist so_far) (no_zero (es ++ e ∷ []) stepped.next.hist so_far) in
          let l = last (listed b (fresh k) (es ++ e ∷ [])) in
          ap {B = Write} (λ (u : ℕ). record { timestamp = record { 0 = u }; value = (record_of (step t e).table c b).value }) q.0
          ∙ ap {B = Write} (λ (v : ℕ). record { timestamp = l.timestamp; value = v }) q.1

  -- ---- the clauses

  -- the run of es
  whole : (es : List Event) → (hist : Hist) × Run b no_hist (fresh k) es hist
  whole es = run b es no_hist (λ _. 0) (fresh k) base-block base

  -- for a fresh store of any creation
  mirrors : OneCopy k b
  unfolding rising
  mirrors = record {
    by_timestamp = λ es. all_rises [] (committed b (fresh k) es) refl;
    from_events = λ es. let r = whole es in
        every_any _ (listed b (fresh k) es) (λ u v z. any_some _ (begun (told (fresh k) es)) (from-begun es r.0 r.1 u v z));
    apart = all-distinct k;
    about = tells_of_last k;
    reads = λ es e later h v q.
        subst (λ (u : Timestamp). v ≡ (last_before u (listed b (fresh k) (es ++ e ∷ later))).value) (done-read k es e h b v q)
        (read-value (es ++ e ∷ later) (rest es e later).0 (sequence es e later) (host_of (after (fresh k) es) h).attempt.timestamp v
        (answered es e later h v q));
    writes = λ es e later h q. let d = done-write k es e h b q in
        any_some _ (listed b (fresh k) (es ++ e ∷ later)) (any_map (IsIt d.timestamp d.value)
        (λ w. is_attempt b w (last_of h (begun (told (fresh k) es))) ≡ true) (λ w z. rw (z.0, z.1) d.is_last)
        (listed b (fresh k) (es ++ e ∷ later)) (commits es e later d.timestamp d.value d.commits));
    copies = copy-last;
  }

-- Demand 3: for every granted creation, every block and every sequence of events. (The proof does not look at the first hypothesis: where
-- a creation is not granted, every event is refused with 8)
pub one-copy : (k : Creation) → is_creation k ≡ true → (b : ℕ) → is_block k b ≡ true → OneCopy k b
one-copy k _ b lb = mirrors k b lb
