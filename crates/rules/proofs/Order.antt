-- Waiting order, for lists of any length: so for every limit. "waiting entries are in ascending timestamp order (equal allowed)"
use Prim.Native.Nat.{ℕ, zero, suc, ◌≤◌, ◌<◌}
use mathlib.Core.Path.{◌≡◌, refl, ap}
use mathlib.Core.Bool.{Bool, true, false, cond, not, ◌&&◌}
use mathlib.Core.List.{List, [], ◌∷◌, ◌++◌}
use native.Mathlib.Omega.{arith}
use lib.ListN.{length, get_or, set, take, drop}
use borrow.Author.Tests.{ltb-true, ltb-false, lt-ltb, le-ltb}
use Rattle.rules.specs.Types.{Timestamp, Entry}
use Rattle.rules.specs.Timestamps.{◌below◌}
use Rattle.rules.specs.Waiting.{insert, mark, first_with, decided}
use Rattle.rules.specs.Words.{those, each, every, place}
use Rattle.rules.specs.Zero.{zero_entry}
use Rattle.rules.proofs.Lists.{both, and_true, walk}

-- an entry's timestamp as a number
abbrev stamp_of : Entry → ℕ
stamp_of e = e.timestamp.0

-- the timestamps ascend, the first one is not below n
abbrev pub OrderedFrom : ℕ → List Entry → Type 0
OrderedFrom n [] = Unit {0}
OrderedFrom n (x ∷ xs) = (n ≤ stamp_of x) × OrderedFrom (stamp_of x) xs

abbrev pub Ordered : List Entry → Type 0
Ordered l = OrderedFrom 0 l

-- ---- the same by index: no entry is below the one ahead of it

abbrev pub Ascends : List Entry → Type 0
Ascends l = (i : ℕ) → suc i < length l → stamp_of (get_or l i zero_entry) ≤ stamp_of (get_or l (suc i) zero_entry)

-- the two say the same
ascends_from : (x : Entry) (xs : List Entry) → Ascends (x ∷ xs) → OrderedFrom (stamp_of x) xs
ascends_from x [] h = tt
ascends_from x (y ∷ ys) h = (h 0 (omega arith), ascends_from y ys (λ i l. h (suc i) (omega arith)))

pub ascends_ordered : (l : List Entry) → Ascends l → Ordered l
ascends_ordered [] h = tt
ascends_ordered (x ∷ xs) h = (omega arith, ascends_from x xs h)

pub ordered_ascends : (n : ℕ) (l : List Entry) → OrderedFrom n l → Ascends l
ordered_ascends n [] o i h = absurd (omega arith)
ordered_ascends n (x ∷ []) o i h = absurd (omega arith)
ordered_ascends n (x ∷ y ∷ ys) o zero h = o.1.0
ordered_ascends n (x ∷ y ∷ ys) o (suc i) h = ordered_ascends (stamp_of x) (y ∷ ys) o.1 i (omega arith)

-- nothing that waits behind n is below it
pub not-below : (n : ℕ) (t : Timestamp) (l : List Entry) → t.0 ≤ n → OrderedFrom n l → every (λ x. not (x.timestamp below t)) l ≡ true
unfolding every
not-below n t [] h o = refl
not-below n t (x ∷ xs) h o =
    let k = o.0 in
    rw (le-ltb (stamp_of x) t.0 (omega arith), not-below (stamp_of x) t xs (omega arith) o.1) refl

-- ---- a new entry keeps the order

pub insert_ordered : (n : ℕ) (e : Entry) (l : List Entry) → n ≤ stamp_of e → OrderedFrom n l → OrderedFrom n (insert e l)
unfolding insert
insert_ordered n e [] h o = (h, tt)
insert_ordered n e (x ∷ xs) h o = go (e.timestamp below x.timestamp) refl (λ k. insert_ordered (stamp_of x) e xs k o.1)
  where
    go : (b : Bool) → e.timestamp below x.timestamp ≡ b → (stamp_of x ≤ stamp_of e → OrderedFrom (stamp_of x) (insert e xs))
        → OrderedFrom n (cond b (e ∷ x ∷ xs) (x ∷ insert e xs))
    go true q f = let k = ltb-true (stamp_of e) (stamp_of x) q in (h, (omega arith, o.1))
    go false q f = (o.0, f (ltb-false (stamp_of e) (stamp_of x) q))

-- ---- it stands after its equals: at the first place with a greater timestamp, those before it not above it, those behind it above

abbrev pub behind : Entry → List Entry → ℕ
behind e l = place (λ x. e.timestamp below x.timestamp) l

pub insert-place : (e : Entry) (l : List Entry) → insert e l ≡ take (behind e l) l ++ e ∷ drop (behind e l) l
unfolding insert place
insert-place e [] = refl
insert-place e (x ∷ xs) = go (e.timestamp below x.timestamp) (insert-place e xs)
  where
    go : (b : Bool) → insert e xs ≡ take (behind e xs) xs ++ e ∷ drop (behind e xs) xs
        → cond b (e ∷ x ∷ xs) (x ∷ insert e xs) ≡ take (cond b 0 (suc (behind e xs))) (x ∷ xs) ++ e ∷ drop (cond b 0 (suc (behind e xs))) (x ∷ xs)
    go true h = refl
    go false h = ap (λ (l : List Entry). x ∷ l) h

pub ahead-not-above : (e : Entry) (l : List Entry) → every (λ x. not (e.timestamp below x.timestamp)) (take (behind e l) l) ≡ true
unfolding every place
ahead-not-above e [] = refl
ahead-not-above e (x ∷ xs) = go (e.timestamp below x.timestamp) refl (ahead-not-above e xs)
  where
    go : (b : Bool) → (e.timestamp below x.timestamp) ≡ b → every (λ x. not (e.timestamp below x.timestamp)) (take (behind e xs) xs) ≡ true
        → every (λ x. not (e.timestamp below x.timestamp)) (take (cond b 0 (suc (behind e xs))) (x ∷ xs)) ≡ true
    go true d h = refl
    go false d h = rw (d, h) refl

all_above : (e : Entry) (n : ℕ) (l : List Entry) → stamp_of e < n → OrderedFrom n l → every (λ x. e.timestamp below x.timestamp) l ≡ true
unfolding every
all_above e n [] h o = refl
all_above e n (x ∷ xs) h o =
    let k = o.0 in
    rw (lt-ltb (stamp_of e) (stamp_of x) (omega arith), all_above e (stamp_of x) xs (omega arith) o.1) refl

pub behind-above : (n : ℕ) (e : Entry) (l : List Entry) → OrderedFrom n l → every (λ x. e.timestamp below x.timestamp) (drop (behind e l) l) ≡ true
unfolding every place
behind-above n e [] o = refl
behind-above n e (x ∷ xs) o = go (e.timestamp below x.timestamp) refl (behind-above (stamp_of x) e xs o.1)
  where
    go : (b : Bool) → (e.timestamp below x.timestamp) ≡ b → every (λ x. e.timestamp below x.timestamp) (drop (behind e xs) xs) ≡ true
        → every (λ x. e.timestamp below x.timestamp) (drop (cond b 0 (suc (behind e xs))) (x ∷ xs)) ≡ true
    go true d h = rw (d, all_above e (stamp_of x) xs (ltb-true (stamp_of e) (stamp_of x) d) o.1) refl
    go false d h = h

-- ---- nothing is lost or doubled: of entries of any sort there are as many as with e put in front

pub insert-counts : (p : Entry → Bool) (e : Entry) (l : List Entry) → length (those p (insert e l)) ≡ length (those p (e ∷ l))
unfolding insert those
insert-counts p e [] = refl
insert-counts p e (x ∷ xs) = go (e.timestamp below x.timestamp) (p x) refl (p e) refl (insert-counts p e xs)
  where
    go : (b c : Bool) → p x ≡ c → (d : Bool) → p e ≡ d → length (those p (insert e xs)) ≡ length (those p (e ∷ xs))
        → length (those p (cond b (e ∷ x ∷ xs) (x ∷ insert e xs))) ≡ length (those p (e ∷ x ∷ xs))
    go true c hc d hd h = refl
    go false true hc true hd h = rw (hc, hd) (ap suc (rw hd at h))
    go false true hc false hd h = rw (hc, hd) (ap suc (rw hd at h))
    go false false hc true hd h = rw (hc, hd) (rw hd at h)
    go false false hc false hd h = rw (hc, hd) (rw hd at h)

-- there is one entry more, and what holds of each still does
pub insert-length : (e : Entry) (l : List Entry) → length (insert e l) ≡ suc (length l)
unfolding insert
insert-length e [] = refl
insert-length e (x ∷ xs) =
    walk (λ (l : List Entry). length l ≡ suc (suc (length xs))) (e.timestamp below x.timestamp) (e ∷ x ∷ xs) (x ∷ insert e xs)
    (λ _. refl) (λ _. ap suc (insert-length e xs))

pub insert-every : (p : Entry → Bool) (e : Entry) (l : List Entry) → p e ≡ true → every p l ≡ true → every p (insert e l) ≡ true
unfolding insert every
insert-every p e [] h k = and_true (p e) true h refl
insert-every p e (x ∷ xs) h k =
    walk (λ (l : List Entry). every p l ≡ true) (e.timestamp below x.timestamp) (e ∷ x ∷ xs) (x ∷ insert e xs)
    (λ _. and_true (p e) (p x && every p xs) h k)
    (λ _. let b = both (p x) (every p xs) k in and_true (p x) (every p (insert e xs)) b.0 (insert-every p e xs h b.1))

-- ---- the head removed, or an entry decided: the order stays, and a decision changes no timestamp

-- a lower bound lowered
lowered : (n m : ℕ) (l : List Entry) → n ≤ m → OrderedFrom m l → OrderedFrom n l
lowered n m [] h o = tt
lowered n m (x ∷ xs) h o = let k = o.0 in (omega arith, o.1)

pub tail_ordered : (l : List Entry) → Ordered l → Ordered (drop 1 l)
tail_ordered [] o = tt
tail_ordered (x ∷ xs) o = lowered 0 (stamp_of x) xs (omega arith) o.1

-- an entry changed in all but its timestamp
change_ordered : (f : Entry → Entry) → ((x : Entry) → stamp_of (f x) ≡ stamp_of x) → (n : ℕ) (l : List Entry) (i : ℕ) → OrderedFrom n l
    → OrderedFrom n (set l i (f (get_or l i zero_entry)))
change_ordered f k n [] i o = o
change_ordered f k n (x ∷ xs) zero o = rw (k x) o
change_ordered f k n (x ∷ xs) (suc i) o = (o.0, change_ordered f k (stamp_of x) xs i o.1)

pub mark_ordered : (commit : Bool) (t : Timestamp) (l : List Entry) → Ordered l → Ordered (mark commit t l)
unfolding mark
mark_ordered commit t l o = change_ordered (decided commit) (λ x. refl) 0 l (first_with t l) o

pub mark_timestamps : (commit : Bool) (t : Timestamp) (l : List Entry) → each (λ (e : Entry). e.timestamp) (mark commit t l) ≡ each (λ (e : Entry). e.timestamp) l
unfolding mark each
mark_timestamps commit t l = go l _
  where
    go : (l : List Entry) (i : ℕ) → each (λ (e : Entry). e.timestamp) (set l i (decided commit (get_or l i zero_entry))) ≡ each (λ (e : Entry). e.timestamp) l
    go [] i = refl
    go (x ∷ xs) zero = refl
    go (x ∷ xs) (suc i) = ap (λ (l : List Timestamp). x.timestamp ∷ l) (go xs i)
