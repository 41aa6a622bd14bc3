-- The steps of the code are the rules of settlement
use Prim.Native.Nat.{ℕ, ◌+◌, ◌≤◌, ◌<◌, max}
use mathlib.Core.Path.{◌≡◌, refl, sym, ap, ◌∙◌}
use mathlib.Core.Bool.{Bool, true, false, cond, ◌&&◌, ◌||◌, not, and-true, and-false, false≢true}
use mathlib.Core.Logic.{◌⊎◌, inl, inr, ⊎_elim}
use mathlib.Core.List.{List, [], ◌∷◌, ◌++◌, map}
use native.Mathlib.Decide.{dec_le}
use native.Mathlib.Omega.{arith}
use lib.ListN.{length, get_or, set, length-map, get_or-map}
use lib.Dec.{ltb}
use borrow.Author.Tests.{lt-ltb, le-ltb, ltb-true, ltb-false, eqb-true}
use Rattle.std.specs.Prelude.{reverse}
use Rattle.std.specs.List.{filter, fold as fold_from}
use Rattle.std.proofs.lemmas.Grind.{reverse_onto}
use Rattle.std.proofs.lemmas.List.Sums.{fold-append as from-append}
use Rattle.rules.specs.declared.Timestamp.{Timestamp}
use Rattle.rules.specs.declared.Entry.{Entry}
use Rattle.rules.specs.declared.Record.{Record}
use Rattle.rules.specs.declared.Copy.{Copy}
use Rattle.rules.specs.Chunks.{emptied}
use Rattle.rules.specs.Kinds.{is_write, value_of}
use Rattle.rules.specs.Limits.{chunk_limit}
use Rattle.rules.specs.Settlement.{in_set, is_lost, not_lost, last_read, last_write, waiting, write_with, holds, holds_aborted, writes_of, W, beside_w, agreed, committed, writes, commits, latest, written_with, settled_record, settled}
use Rattle.rules.specs.Timestamps.{never, later, ◌is◌, ◌above◌, greatest}
use Rattle.rules.specs.Words.{those, each, joined, every, some, none, first, fold}
use Rattle.rules.specs.Zero.{zero_entry, zero_waiting, no_copy}
use Rattle.rules.proofs.Lists.{both, walk, true_or_false, or_right, upper-left, upper_right, every-those, none-every, each_number}
use Rattle.rules.proofs.Loops.{fold-append, every-same, every-both, first-those, those-both, those-every, each_of, made, made_begin, made-next, made-end}
use Rattle.table_sets.proofs.Chains.{some-any, every-all, those-filter, each-map}
use Rattle.epoch_settle.proofs.Arrays.{fold_is, first_find}
use Rattle.epoch_settle.specs.Steps.{agrees, all_agree, is_committed, with_entry, latest_of, value_with, candidates, greatest_write, greatest_read, value_beside, settled_copy}

-- ---- a write timestamp is agreed: every copy agrees

agreed-steps : (cs : List Copy) (t : Timestamp) → all_agree cs t ≡ agreed cs t
unfolding agreed
agreed-steps cs t =
    sym (every-all (agrees t) cs)
    ∙ sym (rw (none-every (holds_aborted t), every-those (holds t) not_lost cs, every-those (λ c. not (holds_aborted t c)) not_lost cs, every-those (λ c. t above last_read c) is_lost cs, every-both, every-both)
    (every-same _ (agrees t) (λ c. rw (← some-any, ← some-any) (go c.member c.lost (holds t c) (holds_aborted t c) (t above last_read c))) cs))
  where
    go : (m l h a r : Bool) → ((not (m && not l) || h) && (not (m && not l) || not a) && (not (m && l) || r)) ≡ (not m || cond l r (h && not a))
    go true true h a r = refl
    go true false true true r = refl
    go true false true false r = refl
    go true false false a r = refl
    go false l h a r = refl

-- ---- the latest of those of a list that are p, or m

those-append : {A : Type 0} (p : A → Bool) (k l : List A) → those p (k ++ l) ≡ those p k ++ those p l
unfolding those
those-append p [] l = refl
those-append p (x ∷ k) l = go (p x) (those-append p k l)
  where
    go : (b : Bool) → those p (k ++ l) ≡ those p k ++ those p l → cond b (x ∷ those p (k ++ l)) (those p (k ++ l)) ≡ cond b (x ∷ those p k) (those p k) ++ those p l
    go true h = ap (λ (t : List _). x ∷ t) h
    go false h = h

later-above : (m t : Timestamp) → m.0 < t.0 → later m t ≡ t
later-above m t h = rw (lt-ltb m.0 t.0 h) refl

later-below : (m t : Timestamp) → t.0 ≤ m.0 → later m t ≡ m
later-below m t h = rw (le-ltb m.0 t.0 h) refl

-- f of those that are p and whose f is q
chosen : {A B : Type 0} (p : A → Bool) (f : A → B) (q r : B → Bool) → ((t : B) → r t ≡ q t) → (l : List A) → map f (filter (λ x. p x && r (f x)) l) ≡ those q (each f (those p l))
unfolding those each
chosen p f q r h [] = refl
chosen p f q r h (x ∷ xs) = rw (h (f x)) (go (p x) (chosen p f q r h xs))
  where
    kept : (b : Bool) → map f (filter (λ x. p x && r (f x)) xs) ≡ those q (each f (those p xs))
        → map f (cond b (x ∷ filter (λ x. p x && r (f x)) xs) (filter (λ x. p x && r (f x)) xs)) ≡ cond b (f x ∷ those q (each f (those p xs))) (those q (each f (those p xs)))
    kept true e = ap (λ (t : List _). f x ∷ t) e
    kept false e = e

    go : (a : Bool) → map f (filter (λ x. p x && r (f x)) xs) ≡ those q (each f (those p xs))
        → map f (cond (a && q (f x)) (x ∷ filter (λ x. p x && r (f x)) xs) (filter (λ x. p x && r (f x)) xs)) ≡ those q (each f (cond a (x ∷ those p xs) (those p xs)))
    go true e = kept (q (f x)) e
    go false e = e

module _ (p : Timestamp → Bool) where
  grows : (m : Timestamp) (l : List Timestamp) → m.0 ≤ (fold later m l).0
  unfolding fold
  grows m [] = omega arith
  grows m (x ∷ xs) = let a = upper-left (λ (t : Timestamp). t.0) m x in let b = grows (later m x) xs in omega arith

  reaches : (u m : Timestamp) (l : List Timestamp) → p u ≡ true → some (λ t. t is u) l ≡ true → u.0 ≤ (fold later m (those p l)).0
  unfolding fold some those
  reaches u m [] h k = absurd (false≢true k)
  reaches u m (x ∷ xs) h k =
      ⊎_elim
      (λ e.
      let z : x.0 ≡ u.0 = eqb-true x.0 u.0 e in
      let y : x ≡ u = λ i. record { 0 = z i } in
      rw (y, h) (let a = upper_right (λ (t : Timestamp). t.0) m u in let b = grows (later m u) (those p xs) in omega arith))
      (λ e.
      let r = or_right (x is u) (some (λ t. t is u) xs) k e in
      walk (λ (l : List Timestamp). u.0 ≤ (fold later m l).0) (p x) (x ∷ those p xs) (those p xs) (λ _. reaches u (later m x) xs h r) (λ _. reaches u m xs h r))
      (true_or_false (x is u))

  stays : (m : Timestamp) (l : List Timestamp) → ((u : Timestamp) → p u ≡ true → u.0 ≤ m.0) → fold later m (those p l) ≡ m
  unfolding fold those
  stays m [] h = refl
  stays m (x ∷ xs) h =
      walk (λ (l : List Timestamp). fold later m l ≡ m) (p x) (x ∷ those p xs) (those p xs)
      (λ e. ap (λ (t : Timestamp). fold later t (those p xs)) (later-below m x (h x e)) ∙ stays m xs h)
      (λ _. stays m xs h)

  keeps : (m : Timestamp) (l : List Timestamp) → p m ≡ true → p (fold later m (those p l)) ≡ true
  unfolding fold those
  keeps m [] h = h
  keeps m (x ∷ xs) h =
      walk (λ (l : List Timestamp). p (fold later m l) ≡ true) (p x) (x ∷ those p xs) (those p xs)
      (λ e. keeps (later m x) xs (walk (λ (t : Timestamp). p t ≡ true) (ltb m.0 x.0) x m (λ _. e) (λ _. h)))
      (λ _. keeps m xs h)

  -- a list that has all that are p tells it alone
  part : (m : Timestamp) (a b : List Timestamp) → ((u : Timestamp) → p u ≡ true → some (λ t. t is u) a ≡ true) → fold later m (those p (a ++ b)) ≡ fold later m (those p a)
  part m a b h = rw (those-append p a b) (fold-append later m (those p a) (those p b) ∙ stays (fold later m (those p a)) b (λ u k. reaches u m a k (h u k)))

  -- where all that are p are above m, it is m, or one of them and their greatest
  abbrev Either : (m : Timestamp) (any : Bool) → List Timestamp → Type 0
  Either m any l =
      ((any ≡ false) × (fold later m l ≡ m))
      ⊎ ((any ≡ true) × (p (fold later m l) ≡ true) × (greatest l ≡ fold later m l))

  either : (m : Timestamp) → ((u : Timestamp) → p u ≡ true → m.0 < u.0) → (l : List Timestamp) → Either m (some p l) (those p l)
  unfolding fold some those
  either m above_m [] = inl (refl, refl)
  either m above_m (x ∷ xs) = go (p x) refl (either m above_m xs)
    where
      go : (b : Bool) → p x ≡ b → Either m (some p xs) (those p xs) → Either m (b || some p xs) (cond b (x ∷ those p xs) (those p xs))
      go true e _ =
          let k = later-above m x (above_m x e) in
          let n = above_m x e in
          let z = later-above never x (omega arith) in
          let f : Timestamp → Timestamp = λ t. fold later t (those p xs) in
          inr (refl, ap p (ap f k) ∙ keeps x xs e, ap f z ∙ sym (ap f k))
      go false e h = h

-- ---- the latest committed write: a chunk that is not lost has it among its writes

held : (t : Timestamp) (c : Copy) → holds t c ≡ some (λ u. u is t) (writes_of c)
unfolding some each those
held t c = go (waiting c)
  where
    go : (l : List Entry) → some (write_with t) l ≡ some (λ u. u is t) (each (λ e. e.timestamp) (those (λ e. is_write e.kind) l))
    go [] = refl
    go (e ∷ l) = at (is_write e.kind) (go l)
      where
        at : (k : Bool) → some (write_with t) l ≡ some (λ u. u is t) (each (λ e. e.timestamp) (those (λ e. is_write e.kind) l))
            → (e.timestamp is t && k || some (write_with t) l) ≡ some (λ u. u is t) (each (λ e. e.timestamp) (cond k (e ∷ those (λ e. is_write e.kind) l) (those (λ e. is_write e.kind) l)))
        at true h = rw (and-true (e.timestamp is t), h) refl
        at false h = rw (and-false (e.timestamp is t)) h

module _ (cs : List Copy) where
  abbrev lowest : Copy
  lowest = first no_copy not_lost cs

  above-W : (t : Timestamp) → committed cs t ≡ true → (W cs).0 < t.0
  unfolding committed
  above-W t h = ltb-true (W cs).0 t.0 (both (t above W cs) (agreed cs t) h).0

  all_hold : (t : Timestamp) → committed cs t ≡ true → every (holds t) (those not_lost cs) ≡ true
  unfolding committed agreed
  all_hold t h =
      let E = every (holds t) (those not_lost cs) in
      let N = none (holds_aborted t) (those not_lost cs) in
      let R = every (λ c. t above last_read c) (those is_lost cs) in
      (both E N (both (E && N) R (both (t above W cs) (E && N && R) h).1).0).0

  -- so the lowest chunk not lost tells it alone, and its value
  lowest-latest : fold later (W cs) (those (committed cs) (writes_of lowest)) ≡ fold later (W cs) (commits cs)
  unfolding commits writes joined each every those
  lowest-latest = rw (first-those no_copy not_lost cs) (go (those not_lost cs) all_hold)
    where
      go : (l : List Copy) → ((t : Timestamp) → committed cs t ≡ true → every (holds t) l ≡ true)
          → fold later (W cs) (those (committed cs) (writes_of (get_or l 0 no_copy))) ≡ fold later (W cs) (those (committed cs) (joined (each writes_of l)))
      go [] h = refl
      go (c ∷ l) h = sym (part (committed cs) (W cs) (writes_of c) (joined (each writes_of l)) (λ t k. sym (held t c) ∙ (both (holds t c) (every (holds t) l) (h t k)).0))

  lowest-value : (t : Timestamp) → committed cs t ≡ true → value_with t (waiting lowest) ≡ written_with cs t
  unfolding written_with
  lowest-value t h =
      let e : first no_copy (λ c. not_lost c && holds t c) cs ≡ lowest =
      first-those no_copy (λ c. not_lost c && holds t c) cs ∙ rw (those-both not_lost (holds t) cs, those-every (holds t) (those not_lost cs) (all_hold t h)) (sym (first-those no_copy not_lost cs)) in
      rw e (ap (λ (x : Entry). value_of x.kind) (sym (first_find (write_with t) zero_entry (waiting lowest))))

  -- ---- the settled block, by what the code has

  greatest-write : greatest_write cs ≡ W cs
  unfolding W
  greatest-write = rw (fold_is, each-map, those-filter) refl

  greatest-read : greatest_read cs ≡ greatest (each last_read (those in_set cs))
  greatest-read = rw (fold_is, each-map, those-filter) refl

  value-beside : value_beside (W cs) cs ≡ beside_w cs
  unfolding beside_w
  value-beside = ap (λ (c : Copy). c.held.value) (sym (first_find (λ c. in_set c && last_write c is W cs) no_copy cs))

  latest-steps : (l : List Entry) → latest_of cs (W cs) l ≡ fold later (W cs) (those (committed cs) (each (λ e. e.timestamp) (those (λ e. is_write e.kind) l)))
  unfolding committed
  latest-steps l =
      sym (fold_is later (W cs) _)
      ∙ ap (fold later (W cs)) (chosen (λ (e : Entry). is_write e.kind) (λ e. e.timestamp) (committed cs) (is_committed cs (W cs)) (λ t. ap (λ (b : Bool). t above W cs && b) (agreed-steps cs t)) l)

  abbrev record_of : Timestamp → Record
  record_of m = record {
    value = cond (m above W cs) (value_with m (waiting lowest)) (beside_w cs);
    read = greatest (each last_read (those in_set cs));
    write = m;
    waiting = zero_waiting;
  }

  record_is : (m : Timestamp) → m ≡ fold later (W cs) (commits cs) → record_of m ≡ settled_record cs
  unfolding settled_record latest commits
  record_is m e = ⊎_elim else_W latest-one (either (committed cs) (W cs) above-W (writes cs))
    where
      M : Timestamp
      M = fold later (W cs) (those (committed cs) (writes cs))

      else_W : (some (committed cs) (writes cs) ≡ false) × (M ≡ W cs) → record_of m ≡ settled_record cs
      else_W h = rw (h.0, e, h.1, le-ltb (W cs).0 (W cs).0 (omega arith)) refl

      latest-one : (some (committed cs) (writes cs) ≡ true) × (committed cs M ≡ true) × (greatest (those (committed cs) (writes cs)) ≡ M) → record_of m ≡ settled_record cs
      latest-one h =
          let k : committed cs m ≡ true = rw e h.1 in
          rw (h.0, h.2, ← e, lt-ltb (W cs).0 m.0 (above-W m k), lowest-value m k) refl

  pub record_by : (w l r : Timestamp) (v : ℕ) → w ≡ greatest_write cs → l ≡ latest_of cs w (candidates cs) → r ≡ greatest_read cs
      → v ≡ cond (l above w) (value_with l (candidates cs)) (value_beside w cs) → record { value = v; read = r; write = l; waiting = zero_waiting } ≡ settled_record cs
  record_by w l r v hw hl hr hv =
      let lowest-is : candidates cs ≡ waiting lowest = ap waiting (sym (first_find not_lost no_copy cs)) in
      let w_is : w ≡ W cs = hw ∙ greatest-write in
      let l_is : l ≡ fold later (W cs) (commits cs) = hl ∙ rw (w_is, lowest-is) (latest-steps (waiting lowest) ∙ lowest-latest) in
      rw (hv, hr, greatest-read, w_is, lowest-is, value-beside) (record_is l l_is)

-- ---- the latest committed of the entries, as the code looks for it: from the last one on, above what it has so far

fold-front : {S A : Type 0} (f : S → A → S) → ((m : S) (x y : A) → f (f m x) y ≡ f (f m y) x) → (s : S) (x : A) (l : List A) → f (fold_from f s l) x ≡ fold_from f s (x ∷ l)
fold-front f swap s x [] = refl
fold-front f swap s x (y ∷ l) = fold-front f swap (f s y) x l ∙ ap (λ t. fold_from f t l) (swap s y x)

fold-reverse : {S A : Type 0} (f : S → A → S) → ((m : S) (x y : A) → f (f m x) y ≡ f (f m y) x) → (s : S) (l : List A) → fold_from f s (reverse l) ≡ fold_from f s l
fold-reverse f swap s [] = refl
fold-reverse f swap s (x ∷ xs) =
    ap (fold_from f s) (reverse_onto xs x [])
    ∙ from-append f s (reverse xs) (x ∷ [])
    ∙ ap (λ m. f m x) (fold-reverse f swap s xs)
    ∙ fold-front f swap s x xs

later_max : (m t : Timestamp) → (later m t).0 ≡ max m.0 t.0
later_max m t = go (dec_le t.0 m.0)
  where
    go : Dec (t.0 ≤ m.0) → (later m t).0 ≡ max m.0 t.0
    go (yes h) = rw (le-ltb m.0 t.0 h) (omega arith)
    go (no h) = rw (lt-ltb m.0 t.0 (omega arith)) (omega arith)

later_swap : (m t u : Timestamp) → later (later m t) u ≡ later (later m u) t
later_swap m t u =
    let z : (later (later m t) u).0 ≡ (later (later m u) t).0 = rw (later_max (later m t) u, later_max (later m u) t, later_max m t, later_max m u) (omega arith) in
    λ i. record { 0 = z i }

module _ (cs : List Copy) where
  abbrev taken : Entry → Timestamp → Timestamp
  taken e m = cond (is_write e.kind && all_agree cs e.timestamp) (later m e.timestamp) m

  entry_is : (m : Timestamp) (e : Entry) → with_entry cs m e ≡ taken e m
  entry_is m e = go (is_write e.kind) (e.timestamp above m) (all_agree cs e.timestamp)
    where
      go : (k u g : Bool) → cond (k && (u && g)) e.timestamp m ≡ cond (k && g) (cond u e.timestamp m) m
      go true true true = refl
      go true true false = refl
      go true false true = refl
      go true false false = refl
      go false u g = refl

  entry_swap : (m : Timestamp) (x y : Entry) → with_entry cs (with_entry cs m x) y ≡ with_entry cs (with_entry cs m y) x
  entry_swap m x y =
      entry_is (with_entry cs m x) y
      ∙ ap (taken y) (entry_is m x)
      ∙ go (is_write x.kind && all_agree cs x.timestamp) (is_write y.kind && all_agree cs y.timestamp)
      ∙ sym (entry_is (with_entry cs m y) x ∙ ap (taken x) (entry_is m y))
    where
      go : (a b : Bool) → cond b (later (cond a (later m x.timestamp) m) y.timestamp) (cond a (later m x.timestamp) m) ≡ cond a (later (cond b (later m y.timestamp) m) x.timestamp) (cond b (later m y.timestamp) m)
      go true true = later_swap m x.timestamp y.timestamp
      go true false = refl
      go false true = refl
      go false false = refl

  module _ (w : Timestamp) where
    abbrev latest_after : Timestamp → List Entry → Timestamp
    latest_after m l = fold_from later m (map (λ e. e.timestamp) (filter (λ e. is_write e.kind && is_committed cs w e.timestamp) l))

    -- an entry that is not above w is not above what is later than w either
    entries-taken : (m : Timestamp) → w.0 ≤ m.0 → (l : List Entry) → fold_from (with_entry cs) m l ≡ latest_after m l
    entries-taken m h [] = refl
    entries-taken m h (e ∷ l) =
        ap (λ t. fold_from (with_entry cs) t l) (entry_is m e)
        ∙ go (is_write e.kind) (e.timestamp above w) (all_agree cs e.timestamp)
        (λ k. let z = ltb-false w.0 e.timestamp.0 k in later-below m e.timestamp (omega arith))
        (entries-taken m h l)
        (entries-taken (later m e.timestamp) (let k = upper-left (λ (t : Timestamp). t.0) m e.timestamp in omega arith) l)
      where
        rest : List Entry
        rest = filter (λ e. is_write e.kind && is_committed cs w e.timestamp) l

        go : (k u g : Bool) → (u ≡ false → later m e.timestamp ≡ m) → fold_from (with_entry cs) m l ≡ latest_after m l
            → fold_from (with_entry cs) (later m e.timestamp) l ≡ latest_after (later m e.timestamp) l
            → fold_from (with_entry cs) (cond (k && g) (later m e.timestamp) m) l ≡ fold_from later m (map (λ e. e.timestamp) (cond (k && (u && g)) (e ∷ rest) rest))
        go true true true f a b = b
        go true true false f a b = a
        go true false true f a b = ap (λ t. fold_from (with_entry cs) t l) (f refl) ∙ a
        go true false false f a b = a
        go false u g f a b = a

    pub latest_back : (l : List Entry) → fold_from (with_entry cs) w (reverse l) ≡ latest_of cs w l
    latest_back l = fold-reverse (with_entry cs) entry_swap w l ∙ entries-taken w (omega arith) l

-- ---- each copy is settled

-- .. one after the other, where it lies
module _ (cs : List Copy) where
  abbrev now : ℕ → Copy
  now j = settled_copy (settled_record cs) (get_or cs j no_copy)

  abbrev before : ℕ → Copy
  before j = get_or cs j no_copy

  empty_already : emptied (settled_record cs) ≡ settled_record cs
  unfolding settled_record
  empty_already = refl

  abbrev pub settled_until : (i : ℕ) → List Copy
  settled_until i = made now before chunk_limit i

  pub settled-begin : length cs ≡ chunk_limit → cs ≡ settled_until 0
  settled-begin h = made_begin now before chunk_limit no_copy cs h (λ i k. refl)

  pub settled-next : (items : List Copy) (i : ℕ) (d c : Copy) (r : Record) → i < chunk_limit → items ≡ settled_until i → r ≡ settled_record cs → c ≡ settled_copy (emptied r) (get_or items i d) → set items i c ≡ settled_until (i + 1)
  settled-next items i d c r h k e l =
      let here : get_or items i d ≡ before i = ap (λ (x : List Copy). get_or x i d) k ∙ each_number (λ j. cond (ltb j i) (now j) (before j)) chunk_limit i d h ∙ rw (le-ltb i i (omega arith)) refl in
      let settled_here : c ≡ now i = l ∙ ap (settled_copy (emptied r)) here ∙ ap (λ (x : Record). settled_copy x (before i)) (ap emptied e ∙ empty_already) in
      rw (settled_here, k) (made-next now before chunk_limit i h)

  pub settled_is : length cs ≡ chunk_limit → settled_until chunk_limit ≡ settled cs
  unfolding settled
  settled_is h =
      let f = settled_copy (settled_record cs) in
      made-end now before chunk_limit
      ∙ sym (each_of (f no_copy) now chunk_limit (map f cs) (length-map cs f ∙ h) (λ i k. get_or-map f cs i no_copy))
      ∙ sym (each-map f cs)
