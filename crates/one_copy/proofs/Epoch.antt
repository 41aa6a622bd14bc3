-- Settlement of a block's copies, as the block's view has it
use Prim.Native.Nat.{ℕ, ◌≤◌, ◌<◌}
use mathlib.Core.Path.{◌≡◌, refl, sym, subst, subst⁻¹, ◌∙◌, ap}
use mathlib.Core.Logic.{◌⊎◌, inl, inr}
use mathlib.Core.Bool.{Bool, true, false, cond, not, ◌&&◌, false≢true}
use mathlib.Core.List.{List}
use native.Mathlib.Omega.{arith}
use lib.ListN.{length, get_or}
use borrow.Author.Tests.{ltb-true, lt-ltb, eqb-true, eq-eqb, not-true}
use Rattle.one_copy.specs.Types.{Timestamp, Kind, Entry, Table, Copy}
use Rattle.rules.specs.Chunks.{emptied}
use Rattle.rules.specs.Events.{copy_in, copies_of, all_lost}
use Rattle.rules.specs.Kinds.{is_write, is_aborted, value_of}
use Rattle.rules.specs.Limits.{chunk_limit}
use Rattle.rules.specs.Settlement.{in_set, is_lost, not_lost, last_read, last_write, waiting, write_with, aborted_with, holds, holds_aborted, writes_of, W, beside_w, agreed, committed, writes, commits, latest, written_with, settled_record, settled}
use Rattle.rules.specs.Tables.{is_block, set_of, chunk_of, record_of}
use Rattle.rules.specs.Timestamps.{never, ◌is◌, ◌above◌, greatest}
use Rattle.rules.specs.Waiting.{in_order}
use Rattle.rules.specs.Words.{those, each, every, some, none, place, first, numbers}
use Rattle.rules.specs.Zero.{◌among◌, zero_entry, no_copy}
use Rattle.rules.proofs.Formed.{Formed, of_store_lem, set_of_store}
use Rattle.rules.proofs.Lists.{both, three, and_true, each-length, numbers-length, numbers-at, each_number, each-each-number}
use Rattle.one_copy.proofs.Tests.{not-both}
use Rattle.one_copy.proofs.Abs.{Mark, und, cmt, abt, Cell}
use Rattle.one_copy.proofs.Settle.{Chosen, Settling}
use Rattle.one_copy.proofs.Lists.{Any, any_map, any_at, any_get_d, any_those, those_any, some_any, any_some, any_each, each_any, any_out, joined_any, any_numbers, numbers_any}
use Rattle.one_copy.proofs.Folds.{top-all, top_is, place_at_lem, those-at, those_of, those-not}
use Rattle.one_copy.proofs.View.{part_of, IsW, AsWrite, cell_of}
use Rattle.one_copy.proofs.Good.{In, inside, holder}

-- ---- an entry as a write

-- an entry that is a write with u has a mark
is_write_lem : (u : Timestamp) (e : Entry) → write_with u e ≡ true → (m : Mark) × IsW u.0 (value_of e.kind) m e
is_write_lem u e h = go e.kind (both (e.timestamp is u) (is_write e.kind) h).1
  where
    at : e.timestamp.0 ≡ u.0
    at = eqb-true e.timestamp.0 u.0 (both (e.timestamp is u) (is_write e.kind) h).0

    go : (k : Kind) → is_write k ≡ true → (m : Mark) × ((e.timestamp.0 ≡ u.0) × AsWrite (value_of k) m k)
    go Kind.Read z = absurd (false≢true z)
    go (Kind.Undecided v) z = (und, (at, (refl, refl)))
    go (Kind.Committed v) z = (cmt, (at, (refl, refl)))
    go (Kind.Aborted v) z = (abt, (at, (refl, refl)))

-- and the way back
write_is : (u : Timestamp) (v : ℕ) (m : Mark) (e : Entry) → IsW u.0 v m e → write_with u e ≡ true
write_is u v m e h = and_true (e.timestamp is u) (is_write e.kind) (eq-eqb e.timestamp.0 u.0 h.0) (go e.kind h.1)
  where
    go : (k : Kind) → AsWrite v m k → is_write k ≡ true
    go Kind.Read z = absurd z
    go (Kind.Undecided x) z = refl
    go (Kind.Committed x) z = refl
    go (Kind.Aborted x) z = refl

-- an entry that is an aborted write
is_aborted_lem : (u : Timestamp) (e : Entry) → aborted_with u e ≡ true → (v : ℕ) × IsW u.0 v abt e
is_aborted_lem u e h = go e.kind (both (e.timestamp is u) (is_aborted e.kind) h).1
  where
    at : e.timestamp.0 ≡ u.0
    at = eqb-true e.timestamp.0 u.0 (both (e.timestamp is u) (is_aborted e.kind) h).0

    go : (k : Kind) → is_aborted k ≡ true → (v : ℕ) × ((e.timestamp.0 ≡ u.0) × AsWrite v abt k)
    go Kind.Read z = absurd (false≢true z)
    go (Kind.Undecided v) z = absurd (false≢true z)
    go (Kind.Committed v) z = absurd (false≢true z)
    go (Kind.Aborted v) z = (v, (at, (refl, refl)))

-- and the way back
aborted_is : (u : Timestamp) (v : ℕ) (e : Entry) → IsW u.0 v abt e → aborted_with u e ≡ true
aborted_is u v e h = and_true (e.timestamp is u) (is_aborted e.kind) (eq-eqb e.timestamp.0 u.0 h.0) (go e.kind h.1)
  where
    und≢ : abt ≡ und → ⊥
    und≢ q = let z : ◌≡◌ {A = ℕ} 0 1 = cc in omega arith

    cmt≢ : abt ≡ cmt → ⊥
    cmt≢ q = let z : ◌≡◌ {A = ℕ} 0 1 = cc in omega arith

    go : (k : Kind) → AsWrite v abt k → is_aborted k ≡ true
    go Kind.Read z = absurd z
    go (Kind.Undecided x) z = absurd (und≢ z.1)
    go (Kind.Committed x) z = absurd (cmt≢ z.1)
    go (Kind.Aborted x) z = refl

-- ---- the settled copy of a chunk

-- a copy of the set is settled, any other is emptied
pub settled_at_lem : (t : Table) (b c : ℕ) → c < chunk_limit → (get_or (settled (copies_of t b)) c no_copy).held ≡ cond
    (c among set_of t.creation b) (settled_record (copies_of t b)) (emptied (record_of t c b))
unfolding settled
settled_at_lem t b c l = ap (λ (x : Copy). x.held)
    (each-each-number (λ (x : Copy). record {
      member = x.member;
      lost = x.lost;
      held =
          cond (in_set x) (settled_record (copies_of t b)) (emptied x.held);
    }) (copy_in t.creation t.chunks t.records b) chunk_limit c no_copy l)

module _ (t : Table) (f : Formed t) (b : ℕ) (lb : is_block t.creation b ≡ true) where
  -- the chunks of the set
  abbrev S : ℕ → Type 0
  S = In t.creation b

  -- the block's copies, as settlement has them
  abbrev copies : List Copy
  copies = copies_of t b

  abbrev copy : ℕ → Copy
  copy c = copy_in t.creation t.chunks t.records b c

  -- and as the view has them
  abbrev cell : ℕ → Cell
  cell c = cell_of (part_of t b c)

  -- ---- the copies, by chunk

  -- a member is one of the store's chunks
  member_in : (c : ℕ) → c < chunk_limit → c among set_of t.creation b ≡ true → S c
  member_in c l e = (of_store_lem t.creation (set_of t.creation b) (set_of_store t.creation b f.creation lb) c l e, e)

  -- the copy of chunk c stands at c
  copy_at : (c : ℕ) → c < chunk_limit → get_or copies c no_copy ≡ copy c
  copy_at c l = each_number copy chunk_limit c no_copy l

  -- there are eight
  copies_length : length copies ≡ chunk_limit
  copies_length = each-length copy (numbers chunk_limit) ∙ numbers-length chunk_limit

  -- some copy is a chunk's, and the way back
  any_copies : (P : Copy → Type 0) → Any P copies → (c : ℕ) × (c < chunk_limit) × P (copy c)
  any_copies P h = any_numbers (λ c. P (copy c)) chunk_limit (any_each copy P (numbers chunk_limit) h)

  copies_any : (P : Copy → Type 0) (c : ℕ) → c < chunk_limit → P (copy c) → Any P copies
  copies_any P c l h = each_any copy P (numbers chunk_limit) (numbers_any (λ c. P (copy c)) chunk_limit c l h)

  -- every of those copies, by chunk
  those-copies : (q p : Copy → Bool) → every q (those p copies) ≡ true → (c : ℕ) → c < chunk_limit → p (copy c) ≡ true → q (copy c) ≡ true
  those-copies q p h c l e = rw (copy_at c l) at (those-at q p copies c no_copy h (omega (arith, copies_length)) (rw (copy_at c l) e))

  -- and the way back
  copies-those : (q p : Copy → Bool) → ((c : ℕ) → c < chunk_limit → p (copy c) ≡ true → q (copy c) ≡ true) → every q (those p copies) ≡ true
  copies-those q p h = those_of q p copies no_copy (λ i k e. let l : i < chunk_limit = omega (arith, copies_length) in
      rw (copy_at i l) (h i l (rw (copy_at i l) at e)))

  -- ---- the greatest over the set

  module _ (g : Copy → Timestamp) where
    -- the greatest of a timestamp over the set
    abbrev peak : Timestamp
    peak = greatest (each g (those in_set copies))

    -- none is above it
    peak-top : (c : ℕ) → S c → (g (copy c)).0 ≤ peak.0
    peak-top c m = top-all (λ (u : Timestamp). u.0) never (each g (those in_set copies)) (g (copy c)).0
        (each_any g (λ (u : Timestamp). u.0 ≡ (g (copy c)).0) (those in_set copies) (those_any in_set (λ x. (g x).0 ≡ (g (copy c)).0) copies
        (copies_any (λ x. (in_set x ≡ true) × ((g x).0 ≡ (g (copy c)).0)) c (inside t f b lb c m) (m.1, refl))))

    -- one has it
    peak-at : (c : ℕ) × S c × ((g (copy c)).0 ≡ peak.0)
    peak-at = elim (top_is (λ (u : Timestamp). u.0) never (each g (those in_set copies))) [
      | inl e ↦ (let c = holder t f b lb in let z : peak.0 ≡ 0 = ap (λ (u : Timestamp). u.0) e in
          (c.0, c.1, omega (arith, peak-top c.0 c.1)))
      | inr e ↦ (let r = any_copies _ (any_those in_set (λ x. g x ≡ peak) copies (any_each g (λ u. u ≡ peak) (those in_set copies) e)) in
          (r.0, member_in r.0 r.1 r.2.0, ap (λ (u : Timestamp). u.0) r.2.1))
    ]

  -- ---- W, and the value beside it

  -- no last write is above W
  W-top : (c : ℕ) → S c → (record_of t c b).write.0 ≤ (W copies).0
  unfolding W
  W-top c m = peak-top last_write c m

  -- one is W
  W-at : (c : ℕ) × S c × ((record_of t c b).write.0 ≡ (W copies).0)
  unfolding W
  W-at = peak-at last_write

  -- the lowest chunk with W
  abbrev at_w : ℕ
  at_w = place (λ c. in_set c && last_write c is W copies) copies

  -- it is a member and has W
  W-place : (at_w < chunk_limit) × (in_set (copy at_w) && last_write (copy at_w) is W copies ≡ true)
  W-place =
      let w = W-at in
      let r = place_at_lem (λ c. in_set c && last_write c is W copies) copies no_copy
      (copies_any (λ c. in_set c && last_write c is W copies ≡ true) w.0 (inside t f b lb w.0 w.1)
      (and_true _ _ w.1.1 (eq-eqb _ _ w.2))) in
      let l : at_w < chunk_limit = omega (arith, r.0, copies_length) in
      (l, rw (copy_at at_w l) at r.1)

  -- it is of the set
  W_in : S at_w
  W_in = let r = W-place in member_in at_w r.0 (both (in_set (copy at_w)) (last_write (copy at_w) is W copies) r.1).0

  -- its last write is W
  W_is : (record_of t at_w b).write.0 ≡ (W copies).0
  W_is = let r = W-place in eqb-true (record_of t at_w b).write.0 (W copies).0
      (both (in_set (copy at_w)) (last_write (copy at_w) is W copies) r.1).1

  -- its value is the one beside W
  W-value : (record_of t at_w b).value ≡ beside_w copies
  unfolding beside_w
  W-value = ap (λ (x : Copy). x.held.value) (sym (copy_at at_w W-place.0))

  -- ---- what is committed, as a test and as a fact

  -- a test that passes says what the view asks
  pub chosen-to : (u : Timestamp) → committed copies u ≡ true → Chosen S cell (W copies).0 u.0
  unfolding committed agreed
  chosen-to u h =
      let r = both (u above W copies) _ h in
      let a = three (every (holds u) (those not_lost copies)) (none (holds_aborted u) (those not_lost copies))
      (every (λ c. u above last_read c) (those is_lost copies)) r.1 in
      record {
        above = ltb-true (W copies).0 u.0 r.0;
        holds = λ c m l.
            let z = some_any (write_with u) (in_order (record_of t c b).waiting)
            (those-copies (holds u) not_lost a.0 c (inside t f b lb c m) (rw (m.1, l) refl)) in
            let y = any_out (λ v e. (m : Mark) × IsW u.0 v m e) (in_order (record_of t c b).waiting)
            (any_map (λ e. write_with u e ≡ true) (λ e. (v : ℕ) × ((m : Mark) × IsW u.0 v m e))
            (λ e p. (value_of e.kind, is_write_lem u e p)) (in_order (record_of t c b).waiting) z) in
            let x = any_out (λ m e. IsW u.0 y.0 m e) (in_order (record_of t c b).waiting) y.1 in
            (y.0, x.0, x.1);
        clean = λ c m l v z.
            let no = not-true (some (holds_aborted u) (those not_lost copies)) a.1 in
            not-both (some (holds_aborted u) (those not_lost copies))
            (any_some (holds_aborted u) (those not_lost copies) (those_any not_lost (λ x. holds_aborted u x ≡ true) copies
            (copies_any (λ x. (not_lost x ≡ true) × (holds_aborted u x ≡ true)) c (inside t f b lb c m) (
              rw (m.1, l) refl,
              any_some (aborted_with u) (in_order (record_of t c b).waiting)
                  (any_map (IsW u.0 v abt) (λ e. aborted_with u e ≡ true) (aborted_is u v) (in_order (record_of t c b).waiting) z),
            ))))
            no;
        unread = λ c m l. ltb-true (record_of t c b).read.0 u.0 (those-copies (λ c. u above last_read c) is_lost a.2 c
            (inside t f b lb c m) (rw (m.1, l) refl));
      }

  -- and the way back
  pub chosen-from : (u : Timestamp) → Chosen S cell (W copies).0 u.0 → committed copies u ≡ true
  unfolding committed agreed
  chosen-from u h = and_true _ _ (lt-ltb (W copies).0 u.0 h.above) (and_true _ _ (and_true _ _
      (copies-those (holds u) not_lost (λ c l e. let q = both (c among set_of t.creation b) (not (chunk_of t c).lost) e in
      let z = h.holds c (member_in c l q.0) (not-true (chunk_of t c).lost q.1) in
      any_some (write_with u) (in_order (record_of t c b).waiting) (any_map (IsW u.0 z.0 z.1) (λ e. write_with u e ≡ true)
      (write_is u z.0 z.1) (in_order (record_of t c b).waiting) z.2)))
      (ap not (go (some (holds_aborted u) (those not_lost copies)) refl)))
      (copies-those (λ c. u above last_read c) is_lost (λ c l e. let q = both (c among set_of t.creation b) (chunk_of t c).lost e in
      lt-ltb (record_of t c b).read.0 u.0 (h.unread c (member_in c l q.0) q.1))))
    where
      go : (x : Bool) → some (holds_aborted u) (those not_lost copies) ≡ x → x ≡ false
      go false q = refl
      go true q = absurd (
          let r = any_copies _ (any_those not_lost (λ x. holds_aborted u x ≡ true) copies
          (some_any (holds_aborted u) (those not_lost copies) q)) in
          let s = both (r.0 among set_of t.creation b) (not (chunk_of t r.0).lost) r.2.0 in
          let w = in_order (record_of t r.0 b).waiting in
          let z = any_out (λ v e. IsW u.0 v abt e) w (any_map (λ e. aborted_with u e ≡ true) (λ e. (v : ℕ) × IsW u.0 v abt e)
          (is_aborted_lem u) w (some_any (aborted_with u) w r.2.1)) in
          h.clean r.0 (member_in r.0 r.1 s.0) (not-true (chunk_of t r.0).lost s.1) z.0 z.1)

  -- ---- the list of what is committed

  -- a timestamp as a number
  abbrev IsStamp : ℕ → Timestamp → Type 0
  IsStamp u x = x.0 ≡ u

  -- what is listed is chosen
  pub commits_in : (u : ℕ) → Any (IsStamp u) (commits copies) → Chosen S cell (W copies).0 u
  unfolding commits
  commits_in u h =
      let r = any_at (λ x. (committed copies x ≡ true) × (x.0 ≡ u)) (writes copies) never
      (any_those (committed copies) (IsStamp u) (writes copies) h) in
      subst (Chosen S cell (W copies).0) r.2.1 (chosen-to (get_or (writes copies) r.0 never) r.2.0)

  -- an entry of a chunk that is not lost is among the writes
  writes_any : (P : Timestamp → Type 0) (c : ℕ) → S c → (chunk_of t c).lost ≡ false
      → Any (λ e. (is_write e.kind ≡ true) × P e.timestamp) (in_order (record_of t c b).waiting) → Any P (writes copies)
  unfolding writes
  writes_any P c m l h = joined_any P (each writes_of (those not_lost copies)) (each_any writes_of (Any P) (those not_lost copies)
      (those_any not_lost (λ x. Any P (writes_of x)) copies (copies_any (λ x. (not_lost x ≡ true) × Any P (writes_of x)) c (inside t f b lb c m) (
        rw (m.1, l) refl,
        each_any (λ (e : Entry). e.timestamp) P (those (λ e. is_write e.kind) (in_order (record_of t c b).waiting))
            (those_any (λ e. is_write e.kind) (λ e. P e.timestamp) (in_order (record_of t c b).waiting) h),
      ))))

  module _ (al : all_lost (set_of t.creation b) t.chunks ≡ false) where
    -- a chunk that is not lost
    pub alive : (c : ℕ) × S c × ((chunk_of t c).lost ≡ false)
    unfolding all_lost
    alive =
        let r = those-not (λ c. (chunk_of t c).lost) (λ c. c among set_of t.creation b) (numbers chunk_limit) 0 al in
        let l : r.0 < chunk_limit = omega (arith, r.1, numbers-length chunk_limit) in
        let at = numbers-at chunk_limit r.0 0 l in
        (r.0, member_in r.0 l (rw at at r.2), rw at at r.3)

    -- what is chosen is listed
    pub commits_has : (u : ℕ) → Chosen S cell (W copies).0 u → Any (IsStamp u) (commits copies)
    unfolding commits
    commits_has u h =
        let a = alive in
        let z = h.holds a.0 a.1 a.2 in
        let w = in_order (record_of t a.0 b).waiting in
        those_any (committed copies) (IsStamp u) (writes copies)
        (writes_any (λ x. (committed copies x ≡ true) × (x.0 ≡ u)) a.0 a.1 a.2
        (any_map (IsW u z.0 z.1) (λ e. (is_write e.kind ≡ true)
        × ((committed copies e.timestamp ≡ true) × (e.timestamp.0 ≡ u)))
        (λ e q. (
          (both (e.timestamp is e.timestamp) (is_write e.kind) (write_is e.timestamp z.0 z.1 e (refl, q.1))).1,
          (chosen-from e.timestamp (subst⁻¹ (Chosen S cell (W copies).0) q.0 h), q.0),
        )) w z.2))

    -- the value that a chosen write is listed with is an entry's
    pub written : (u : Timestamp) → Chosen S cell (W copies).0 u.0 → (c : ℕ) × (m : Mark) × S c
        × Any (IsW u.0 (written_with copies u) m) (in_order (record_of t c b).waiting)
    unfolding written_with
    written u h = (
      at,
      entry.0,
      member_in at found.0 held.0,
      subst (λ v. Any (IsW u.0 v entry.0) l) value
          (any_get_d (IsW u.0 (value_of e.kind) entry.0) l (place (write_with u) l) zero_entry (λ q. q.1) entry.1),
    )
      where
        at : ℕ
        at = place (λ c. not_lost c && holds u c) copies

        found : (at < chunk_limit) × (not_lost (copy at) && holds u (copy at) ≡ true)
        found =
            let a = alive in
            let z = h.holds a.0 a.1 a.2 in
            let w = in_order (record_of t a.0 b).waiting in
            let r = place_at_lem (λ c. not_lost c && holds u c) copies no_copy
            (copies_any (λ c. not_lost c && holds u c ≡ true) a.0 (inside t f b lb a.0 a.1)
            (and_true (not_lost (copy a.0)) (holds u (copy a.0)) (rw (a.1.1, a.2) refl)
            (any_some (write_with u) w (any_map (IsW u.0 z.0 z.1) (λ e. write_with u e ≡ true) (write_is u z.0 z.1) w
            z.2)))) in
            let k : at < chunk_limit = omega (arith, r.0, copies_length) in
            (k, rw (copy_at at k) at r.1)

        held : (at among set_of t.creation b ≡ true) × (holds u (copy at) ≡ true)
        held = let r = both (not_lost (copy at)) (holds u (copy at)) found.1 in
            ((both (at among set_of t.creation b) (not (chunk_of t at).lost) r.0).0, r.1)

        l : List Entry
        l = in_order (record_of t at b).waiting

        e : Entry
        e = first zero_entry (write_with u) l

        entry : (m : Mark) × IsW u.0 (value_of e.kind) m e
        entry = is_write_lem u e (place_at_lem (write_with u) l zero_entry (some_any (write_with u) l held.1)).1

        value : value_of e.kind ≡ value_of (first zero_entry (write_with u)
            (waiting (first no_copy (λ c. not_lost c && holds u c) copies))).kind
        value = ap (λ (x : Copy). value_of (first zero_entry (write_with u) (waiting x)).kind) (sym (copy_at at found.0))

    -- ---- settlement

    -- nothing is committed, or the latest is
    picked : (x : Bool) → some (committed copies) (writes copies) ≡ x
        → (((u : ℕ) → Chosen S cell (W copies).0 u → ⊥) × ((cond x (latest copies) (W copies)).0 ≡ (W copies).0)
        × (cond x (written_with copies (latest copies)) (beside_w copies) ≡ beside_w copies))
        ⊎ (Chosen S cell (W copies).0 (cond x (latest copies) (W copies)).0
        × ((u : ℕ) → Chosen S cell (W copies).0 u → u ≤ (cond x (latest copies) (W copies)).0)
        × ((c : ℕ) × (m : Mark) × S c × (cell c).w (cond x (latest copies) (W copies)).0
        (cond x (written_with copies (latest copies)) (beside_w copies)) m))
    unfolding commits latest
    picked false e = inl (
      λ u h. not-both (some (committed copies) (writes copies))
          (any_some (committed copies) (writes copies) (any_map _ (λ x. committed copies x ≡ true) (λ x q. q.0) (writes copies)
          (any_those (committed copies) (IsStamp u) (writes copies) (commits_has u h)))) e,
      refl,
      refl,
    )
    picked true e = inr (
      chosen,
      λ u h. top-all (λ (x : Timestamp). x.0) never (commits copies) u (commits_has u h),
      written
          (latest copies) chosen,
    )
      where
        -- one that is committed
        one : (u : ℕ) × Any (IsStamp u) (commits copies)
        one = let r = any_at (λ x. committed copies x ≡ true) (writes copies) never (some_any (committed copies) (writes copies) e) in
            ((get_or (writes copies) r.0 never).0, commits_has _ (chosen-to (get_or (writes copies) r.0 never) r.2))

        chosen : Chosen S cell (W copies).0 (latest copies).0
        chosen = elim (top_is (λ (x : Timestamp). x.0) never (commits copies)) [
          | inl q ↦ absurd (let r = one in let z : (latest copies).0 ≡ 0 = ap (λ (x : Timestamp). x.0) q in
              omega (arith, (commits_in r.0 r.1).above, top-all (λ (x : Timestamp). x.0) never (commits copies) r.0 r.1))
          | inr q ↦ commits_in (latest copies).0 (any_map (λ x. x ≡ latest copies) (IsStamp (latest copies).0)
              (λ x z. ap (λ (x : Timestamp). x.0) z) (commits copies) q)
        ]

    -- the rules' settlement is the view's
    pub settling : Settling S cell (W copies).0 (beside_w copies) (settled_record copies).write.0 (settled_record copies).value
        (settled_record copies).read.0
    unfolding settled_record
    settling = record {
      at_w = at_w;
      at_w_in = W_in;
      at_w-wr = W_is;
      at_w-val = W-value;
      top_w = W-top;
      at_m = (peak-at last_read).0;
      at_m_in = (peak-at last_read).1;
      at_m-rd = (peak-at last_read).2;
      top_m = peak-top last_read;
      alive = alive.0;
      alive_in = alive.1;
      alive_is = alive.2;
      pick = picked (some (committed copies) (writes copies)) refl;
    }
