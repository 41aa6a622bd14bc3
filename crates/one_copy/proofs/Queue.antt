-- The waiting list under insertion, marking and removal of its head; one law each for `Any`
use Prim.Native.Nat.{ℕ, suc, ◌≤◌, ◌<◌}
use mathlib.Core.Path.{◌≡◌, refl, sym, subst, ◌∙◌, ap}
use mathlib.Core.Logic.{◌⊎◌, inl, inr}
use mathlib.Core.Bool.{Bool, true, false, cond}
use mathlib.Core.List.{List, [], ◌∷◌}
use native.Mathlib.Omega.{arith}
use lib.ListN.{length, get_or, set, drop, length-drop, length-set}
use borrow.Author.Tests.{eqb-true}
use Rattle.one_copy.specs.Types.{Timestamp, Creation, Kind, Entry, Waiting}
use Rattle.rules.specs.Limits.{waiting_limit}
use Rattle.rules.specs.Timestamps.{◌is◌, ◌below◌}
use Rattle.rules.specs.Waiting.{in_order, holding, insert, inserted, head_removed, first_with, decided_kind, decided, mark, marked}
use Rattle.rules.specs.Words.{place}
use Rattle.rules.specs.Zero.{zero_entry}
use Rattle.rules.proofs.Formed.{FormedWaiting, entries_ordered}
use Rattle.rules.proofs.Lists.{filled-take, take_short}
use Rattle.rules.proofs.Order.{OrderedFrom, Ordered, insert-length}
use Rattle.one_copy.proofs.Abs.{Mark, und, cmt, abt}
use Rattle.one_copy.proofs.Lists.{Any}
use Rattle.one_copy.proofs.View.{IsW, IsR}

-- ---- insertion

-- what waits then waited, or is the new entry
pub insert-to : (P : Entry → Type 0) (e : Entry) (q : List Entry) → Any P (insert e q) → Any P q ⊎ P e
unfolding insert
insert-to P e [] (inl h) = inr h
insert-to P e [] (inr h) = absurd h
insert-to P e (x ∷ xs) h = go (e.timestamp below x.timestamp) h (λ z. insert-to P e xs z)
  where
    go : (t : Bool) → Any P (cond t (e ∷ x ∷ xs) (x ∷ insert e xs)) → (Any P (insert e xs) → Any P xs ⊎ P e) → Any P (x ∷ xs) ⊎ P e
    go true (inl h) f = inr h
    go true (inr h) f = inl h
    go false (inl h) f = inl (inl h)
    go false (inr h) f = elim (f h) [ inl q ↦ inl (inr q) | inr q ↦ inr q ]

-- the way back
pub insert-from : (P : Entry → Type 0) (e : Entry) (q : List Entry) → Any P q ⊎ P e → Any P (insert e q)
unfolding insert
insert-from P e [] (inl h) = absurd h
insert-from P e [] (inr h) = inl h
insert-from P e (x ∷ xs) h = go (e.timestamp below x.timestamp) h (λ z. insert-from P e xs z)
  where
    go : (t : Bool) → Any P (x ∷ xs) ⊎ P e → (Any P xs ⊎ P e → Any P (insert e xs)) → Any P (cond t (e ∷ x ∷ xs) (x ∷ insert e xs))
    go true (inl h) f = inr h
    go true (inr h) f = inl h
    go false (inl h) f = elim h [ inl p ↦ inl p | inr p ↦ inr (f (inl p)) ]
    go false (inr h) f = inr (f (inr h))

-- ---- a decision

-- what a commit and an abort mark
abbrev pub mark_of : (commit : Bool) → Mark
mark_of true = cmt
mark_of false = abt

-- what marking does: nothing, or one undecided write of that timestamp becomes decided
pub record Marked (M : Mark) (t : ℕ) (q q' : List Entry) : Type 0 where
  pub v : ℕ
  pub was : Any (IsW t v und) q
  pub to : (u x : ℕ) (m : Mark) → Any (IsW u x m) q' → Any (IsW u x m) q ⊎ ((u ≡ t) × (x ≡ v) × (m ≡ M))
  pub from : (u x : ℕ) (m : Mark) → Any (IsW u x m) q → Any (IsW u x m) q' ⊎ (u ≡ t)
  pub new : Any (IsW t v M) q'
  pub r : (u : ℕ) → Any (IsR u) q' → Any (IsR u) q

-- an entry with another kind
abbrev with_kind : Entry → Kind → Entry
with_kind e k = record { timestamp = e.timestamp; sender = e.sender; epoch = e.epoch; kind = k }

-- the first with the timestamp: its kind decides
marked-here : (commit : Bool) (t : ℕ) (e : Entry) (q : List Entry) (k : Kind) → e.timestamp.0 ≡ t
    → (◌≡◌ {A = List Entry} (with_kind e (decided_kind commit k) ∷ q) (with_kind e k ∷ q))
    ⊎ Marked (mark_of commit) t (with_kind e k ∷ q) (with_kind e (decided_kind commit k) ∷ q)
marked-here commit t e q Kind.Read h = inl refl
marked-here commit t e q (Kind.Committed v) h = inl refl
marked-here commit t e q (Kind.Aborted v) h = inl refl
marked-here true t e q (Kind.Undecided v) h = inr (record {
  v = v;
  was = inl (h, (refl, refl));
  to = λ u x m. elim [ inl z ↦ inr (sym z.0 ∙ h, sym z.1.0, z.1.1) | inr z ↦ inl (inr z) ];
  from = λ u x m. elim [ inl z ↦ inr (sym z.0 ∙ h) | inr z ↦ inl (inr z) ];
  new = inl (h, (refl, refl));
  r = λ u. elim [ inl z ↦ absurd z.1 | inr z ↦ inr z ];
})
marked-here false t e q (Kind.Undecided v) h = inr (record {
  v = v;
  was = inl (h, (refl, refl));
  to = λ u x m. elim [ inl z ↦ inr (sym z.0 ∙ h, sym z.1.0, z.1.1) | inr z ↦ inl (inr z) ];
  from = λ u x m. elim [ inl z ↦ inr (sym z.0 ∙ h) | inr z ↦ inl (inr z) ];
  new = inl (h, (refl, refl));
  r = λ u. elim [ inl z ↦ absurd z.1 | inr z ↦ inr z ];
})

-- the list
pub mark-cases : (commit : Bool) (t : Timestamp) (q : List Entry) → (mark commit t q ≡ q)
    ⊎ Marked (mark_of commit) t.0 q (mark commit t q)
unfolding mark first_with place
mark-cases commit t [] = inl refl
mark-cases commit t (e ∷ q) = go (e.timestamp is t) refl (mark-cases commit t q)
  where
    go : (c : Bool) → (e.timestamp is t) ≡ c → (mark commit t q ≡ q) ⊎ Marked (mark_of commit) t.0 q (mark commit t q)
        → (set (e ∷ q) (cond c 0 (suc (place (λ e. e.timestamp is t) q)))
        (decided commit (get_or (e ∷ q) (cond c 0 (suc (place (λ e. e.timestamp is t) q))) zero_entry)) ≡ e ∷ q)
        ⊎ Marked (mark_of commit) t.0 (e ∷ q) (set (e ∷ q) (cond c 0 (suc (place (λ e. e.timestamp is t) q)))
        (decided commit (get_or (e ∷ q) (cond c 0 (suc (place (λ e. e.timestamp is t) q))) zero_entry)))
    go true p _ = marked-here commit t.0 e q e.kind (eqb-true e.timestamp.0 t.0 p)
    go false p (inl h) = inl (ap {B = List Entry} (λ l. e ∷ l) h)
    go false p (inr h) = inr (record {
      v = h.v;
      was = inr h.was;
      new = inr h.new;
      to = λ u x m. elim [ inl z ↦ inl (inl z) | inr z ↦ elim (h.to u x m z) [ inl y ↦ inl (inr y) | inr y ↦ inr y ] ];
      from = λ u x m. elim [ inl z ↦ inl (inl z) | inr z ↦ elim (h.from u x m z) [ inl y ↦ inl (inr y) | inr y ↦ inr y ] ];
      r = λ u. elim [ inl z ↦ inl z | inr z ↦ inr (h.r u z) ];
    })

-- ---- the list in its array

-- a list that fits stands in it
holding-order : (l : List Entry) → length l ≤ waiting_limit → in_order (holding l) ≡ l
unfolding holding
holding-order l h = filled-take zero_entry waiting_limit l h

-- so a list with room for one more
pub inserted-order : (w : Waiting) (e : Entry) → w.count < waiting_limit → in_order (inserted w e) ≡ insert e (in_order w)
unfolding inserted
inserted-order w e h = holding-order (insert e (in_order w)) (omega (arith, insert-length e (in_order w), take_short w.count w.entries))

-- a marked list
pub marked-order : (w : Waiting) (commit : Bool) (t : Timestamp) → w.count ≤ waiting_limit
    → in_order (marked commit t w) ≡ mark commit t (in_order w)
unfolding marked mark
marked-order w commit t h = holding-order (mark commit t (in_order w)) (omega (
  arith,
  length-set (in_order w) (first_with t (in_order w)) (decided commit (get_or (in_order w) (first_with t (in_order w)) zero_entry)),
  take_short w.count w.entries,
))

-- a list without its head
pub removed-order : (w : Waiting) → w.count ≤ waiting_limit → in_order (head_removed w) ≡ drop 1 (in_order w)
unfolding head_removed
removed-order w h = holding-order (drop 1 (in_order w)) (omega (arith, length-drop 1 (in_order w), take_short w.count w.entries))

-- ---- the head of a list in order is least

-- what waits behind n is not below it
behind : (n : ℕ) (l : List Entry) → OrderedFrom n l → (P : Entry → Type 0) → Any P l → (x : Entry) × P x × (n ≤ x.timestamp.0)
behind n [] o P a = absurd a
behind n (x ∷ xs) o P (inl a) = (x, a, o.0)
behind n (x ∷ xs) o P (inr a) = let r = behind x.timestamp.0 xs o.1 P a in (r.0, r.1, omega (arith, o.0, r.2))

-- what waits is not below the head
pub least : (k : Creation) (w : Waiting) → FormedWaiting k w → (e : Entry) (q : List Entry) → in_order w ≡ e ∷ q
    → (P : Entry → Type 0) → Any P (e ∷ q) → (x : Entry) × P x × (e.timestamp.0 ≤ x.timestamp.0)
least k w f e q h P a =
    let o : Ordered (e ∷ q) = subst Ordered h (entries_ordered k w f) in
    behind e.timestamp.0 (e ∷ q) (omega arith, o.1) P a
