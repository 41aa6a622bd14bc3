-- What the code does to a waiting list's array is what the rules say of its entries
use Prim.Native.Nat.{ℕ, zero, suc, ◌+◌, ◌-◌, ◌≤◌, ◌<◌}
use mathlib.Core.Path.{◌≡◌, refl, sym, ap, ◌∙◌}
use mathlib.Core.Bool.{Bool, true, false, cond, not}
use mathlib.Core.List.{List, [], ◌∷◌, ◌++◌, append-nil}
use native.Mathlib.Numerals.{add-one}
use native.Mathlib.Omega.{arith}
use lib.ListN.{length, get_or, set, take, drop, length-set, drop_of_length-le}
use lib.Seq.{set_out, take_all, take_at}
use Rattle.std.specs.List.{copy_within, prefix_len}
use Rattle.std.proofs.lemmas.List.Edits.{length-insert}
use Rattle.std.proofs.lemmas.List.Recursion.{is_position_or_len}
use Rattle.rules.specs.declared.Timestamp.{Timestamp}
use Rattle.rules.specs.declared.Entry.{Entry}
use Rattle.rules.specs.declared.Waiting.{Waiting}
use Rattle.rules.specs.Limits.{waiting_limit}
use Rattle.rules.specs.Timestamps.{◌is◌, ◌below◌}
use Rattle.rules.specs.Waiting.{in_order, holding, insert, inserted, first_with, decided, mark, marked}
use Rattle.rules.specs.Words.{place, filled}
use Rattle.rules.specs.Zero.{zero_entry}
use Rattle.rules.proofs.Lists.{filled-take, filled_at}
use Rattle.rules.proofs.Loops.{place_other, place_here, place-le, taken_at, opened, filled-length, filled-set, filled-opened}
use Rattle.rules.proofs.Order.{behind, insert-place}

-- an array of eight with l in its first places
abbrev pub places : List Entry → List Entry
places l = filled waiting_limit zero_entry l

pub holding_of : (l : List Entry) (n : ℕ) (x : List Entry) → n ≡ length l → x ≡ places l → record { count = n; entries = x } ≡ holding l
unfolding holding
holding_of l n x h k = rw (h, k) refl

-- ---- a search through the entries in waiting order

abbrev pub stamped : Timestamp → Entry → Bool
stamped t e = e.timestamp is t

abbrev pub overtakes : Entry → Entry → Bool
overtakes e x = e.timestamp below x.timestamp

module _ (p : Entry → Bool) (w : Waiting) (i : ℕ) (inside : i < length (in_order w)) where
  pub search_on : p (get_or w.entries i zero_entry) ≡ false → place p (drop i (in_order w)) ≡ place p (drop (i + 1) (in_order w)) + 1
  search_on h = place_other p zero_entry (in_order w) i inside (ap p (taken_at zero_entry w.count w.entries i inside) ∙ h)

  pub search_ends : p (get_or w.entries i zero_entry) ≡ true → place p (drop i (in_order w)) ≡ 0
  search_ends h = place_here p zero_entry (in_order w) i inside (ap p (taken_at zero_entry w.count w.entries i inside) ∙ h)

-- ---- a tidy list, by its count and its array

module _ (t : Waiting) (l : List Entry) (tidy : t ≡ holding l) where
  pub count_is : t.count ≡ length l
  unfolding holding
  count_is = ap (λ (w : Waiting). w.count) tidy

  entries_are : t.entries ≡ places l
  unfolding holding
  entries_are = ap (λ (w : Waiting). w.entries) tidy

  pub entries-length : length t.entries ≡ 8
  entries-length = ap length entries_are ∙ filled-length zero_entry 8 l

-- ---- an entry is put in, and what stands behind it goes one place on

-- the first that is p stands behind those that are not
prefix-place : {A : Type 0} (p : A → Bool) (l : List A) → prefix_len (λ x. not (p x)) l ≡ place p l
unfolding place
prefix-place p l = sym (is_position_or_len (place p) p refl (λ x xs. ap (cond (p x) 0) (omega arith)) l)

-- what stands from p on is copied one place on, the last one over the end, and e is put at p
shifted : {A : Type 0} (l : List A) (e : A) (p k : ℕ) → k + suc p ≡ length l → set (take (suc p) l ++ take k (drop p l) ++ []) p e ≡ take (length l) (opened p e l)
shifted [] e p k h = absurd (omega arith)
shifted (x ∷ xs) e zero k h = let n : k ≡ length xs = omega arith in rw n (ap (λ (r : List _). e ∷ r) (append-nil (take (length xs) (x ∷ xs))))
shifted (x ∷ xs) e (suc p) k h = ap (λ (r : List _). x ∷ r) (shifted xs e p k (omega arith))

module _ (w t : Waiting) (tidy : t ≡ holding (in_order w)) (room : t.count ≤ 8) where
  module _ (e : Entry) (p : ℕ) (at : p ≡ prefix_len (λ x. not (overtakes e x)) (take t.count t.entries)) where
    stands : p ≡ behind e (in_order w)
    stands =
        let l = in_order w in
        let n = count_is t l tidy in
        at ∙ rw (n, entries_are t l tidy, filled-take zero_entry 8 l (omega arith)) (prefix-place (overtakes e) l)

    put : record { count = t.count + 1; entries = take 8 (opened p e t.entries) } ≡ inserted w e
    unfolding inserted
    put =
        let l = in_order w in
        let n = count_is t l tidy in
        let inside : p ≤ length l = rw stands (place-le (overtakes e) l) in
        let opens : insert e l ≡ opened p e l = rw stands (insert-place e l) in
        holding_of (insert e l) (t.count + 1) (take 8 (opened p e t.entries))
        (rw (opens, length-insert l p e inside, n) refl)
        (rw (opens, entries_are t l tidy) (filled-opened zero_entry 8 l e p inside))

    pub put_in : p < 8 → (x : List Entry) → x ≡ copy_within t.entries p 7 (p + 1) → record { count = t.count + 1; entries = set x p e } ≡ inserted w e
    put_in h x new =
        let old = t.entries in
        let len = entries-length t (in_order w) tidy in
        let none : drop (p + 1 + (7 - p)) old ≡ [] = drop_of_length-le old (omega arith) in
        let moved : set x p e ≡ take 8 (opened p e old) = rw (new, none, add-one, ← len) (shifted old e p (7 - p) (omega arith)) in
        rw moved put

    -- behind the last place there is none
    pub put-beyond : 8 ≤ p → record { count = t.count + 1; entries = t.entries } ≡ inserted w e
    put-beyond h =
        let old = t.entries in
        let len = entries-length t (in_order w) tidy in
        let same : old ≡ take 8 (opened p e old) = rw (take_all p old (omega arith)) (sym (take_at old (e ∷ drop p old) 8 len)) in
        rw same put

  -- the entry at i is decided
  module _ (commit : Bool) (s : Timestamp) (i : ℕ) (found : i ≡ first_with s (in_order w)) where
    pub marked-here : i < t.count → (d : Entry) → d ≡ decided commit (get_or t.entries i zero_entry) → record { count = t.count; entries = set t.entries i d } ≡ marked commit s w
    unfolding marked mark
    marked-here h d new =
        let l = in_order w in
        let n = count_is t l tidy in
        let e : get_or t.entries i zero_entry ≡ get_or l i zero_entry = rw (entries_are t l tidy) (filled_at zero_entry 8 l i (omega arith)) in
        rw (← found) (holding_of (set l i (decided commit (get_or l i zero_entry))) t.count (set t.entries i d)
        (n ∙ sym (length-set l i (decided commit (get_or l i zero_entry))))
        (rw (new, e, entries_are t l tidy) (filled-set zero_entry 8 l i (decided commit (get_or l i zero_entry)) (omega arith) (omega arith))))

    pub marked-none : t.count ≤ i → t ≡ marked commit s w
    unfolding marked mark
    marked-none h =
        let l = in_order w in
        let n = count_is t l tidy in
        tidy ∙ rw (← found) (ap holding (sym (set_out l i (decided commit (get_or l i zero_entry)) (omega arith))))
