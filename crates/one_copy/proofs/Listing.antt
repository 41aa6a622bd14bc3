-- A list by timestamp: it rises, and what is entered is there
use Prim.Native.Nat.{ℕ}
use mathlib.Core.Path.{◌≡◌, refl, sym}
use mathlib.Core.Logic.{◌⊎◌, inl, inr}
use mathlib.Core.Bool.{Bool, true, false, cond}
use mathlib.Core.List.{List, [], ◌∷◌}
use native.Mathlib.Omega.{arith}
use borrow.Author.Tests.{ltb-true, ltb-false, lt-ltb, eqb-true, eqb-false}
use Rattle.one_copy.specs.Listed.{Write, entered, rising}
use Rattle.rules.specs.Timestamps.{◌is◌, ◌below◌}
use Rattle.rules.specs.Words.{every, fold}
use Rattle.rules.proofs.Lists.{both, and_true}
use Rattle.one_copy.proofs.Lists.{Any}
use Rattle.one_copy.proofs.View.{IsTs}

-- ---- one write entered

module _ (w : Write) where
  -- nothing else comes in
  entered_in : (P : Write → Type 0) (l : List Write) → Any P (entered w l) → P w ⊎ Any P l
  unfolding entered
  entered_in P [] h = h
  entered_in P (x ∷ l) h = go (w.timestamp is x.timestamp) (w.timestamp below x.timestamp) h (entered_in P l)
    where
      go : (a b : Bool) → Any P (cond a (x ∷ l) (cond b (w ∷ x ∷ l) (x ∷ entered w l))) → (Any P (entered w l) → P w ⊎ Any P l)
          → P w ⊎ (P x ⊎ Any P l)
      go true b h f = inr h
      go false true h f = h
      go false false (inl h) f = inr (inl h)
      go false false (inr h) f = elim (f h) [ inl q ↦ inl q | inr q ↦ inr (inr q) ]

  -- nothing goes
  entered-old : (P : Write → Type 0) (l : List Write) → Any P l → Any P (entered w l)
  unfolding entered
  entered-old P [] h = absurd h
  entered-old P (x ∷ l) h = go (w.timestamp is x.timestamp) (w.timestamp below x.timestamp) h (entered-old P l)
    where
      go : (a b : Bool) → P x ⊎ Any P l → (Any P l → Any P (entered w l)) → Any P (cond a (x ∷ l) (cond b (w ∷ x ∷ l) (x ∷ entered w l)))
      go true b h f = h
      go false true h f = inr h
      go false false (inl h) f = inl h
      go false false (inr h) f = inr (f h)

  -- its timestamp is there
  entered-new : (l : List Write) → Any (IsTs w.timestamp.0) (entered w l)
  unfolding entered
  entered-new [] = inl refl
  entered-new (x ∷ l) = go (w.timestamp is x.timestamp) refl (w.timestamp below x.timestamp) (entered-new l)
    where
      go : (a : Bool) → w.timestamp is x.timestamp ≡ a → (b : Bool) → Any (IsTs w.timestamp.0) (entered w l)
          → Any (IsTs w.timestamp.0) (cond a (x ∷ l) (cond b (w ∷ x ∷ l) (x ∷ entered w l)))
      go true e b f = inl (sym (eqb-true w.timestamp.0 x.timestamp.0 e))
      go false e true f = inl refl
      go false e false f = inr f

  -- what is so of all stays so
  entered-every : (p : Write → Bool) (l : List Write) → every p l ≡ true → p w ≡ true → every p (entered w l) ≡ true
  unfolding entered every
  entered-every p [] h k = and_true (p w) true k refl
  entered-every p (x ∷ l) h k = go (w.timestamp is x.timestamp) (w.timestamp below x.timestamp) (entered-every p l (both (p x) (every p l) h).1 k)
    where
      go : (a b : Bool) → every p (entered w l) ≡ true → every p (cond a (x ∷ l) (cond b (w ∷ x ∷ l) (x ∷ entered w l))) ≡ true
      go true b f = h
      go false true f = and_true (p w) _ k h
      go false false f = and_true (p x) _ (both (p x) (every p l) h).0 f

  -- what is above x is above w, where w is below x
  below_all : (x : Write) → w.timestamp below x.timestamp ≡ true → (l : List Write) → every (λ y. x.timestamp below y.timestamp) l ≡ true
      → every (λ y. w.timestamp below y.timestamp) l ≡ true
  unfolding every
  below_all x e [] h = refl
  below_all x e (y ∷ l) h =
      let r = both (x.timestamp below y.timestamp) _ h in
      and_true (w.timestamp below y.timestamp) _
      (lt-ltb w.timestamp.0 y.timestamp.0
      (omega (arith, ltb-true w.timestamp.0 x.timestamp.0 e, ltb-true x.timestamp.0 y.timestamp.0 r.0)))
      (below_all x e l r.1)

  -- the list rises still
  entered_rises : (l : List Write) → rising l ≡ true → rising (entered w l) ≡ true
  unfolding entered rising every
  entered_rises [] h = refl
  entered_rises (x ∷ l) h =
      go (w.timestamp is x.timestamp) refl (w.timestamp below x.timestamp) refl (entered_rises l (both (every (λ y. x.timestamp below y.timestamp) l) (rising l) h).1)
    where
      above : List Write → Bool
      above m = every (λ y. x.timestamp below y.timestamp) m

      go : (a : Bool) → w.timestamp is x.timestamp ≡ a → (b : Bool) → w.timestamp below x.timestamp ≡ b → rising (entered w l) ≡ true
          → rising (cond a (x ∷ l) (cond b (w ∷ x ∷ l) (x ∷ entered w l))) ≡ true
      go true e b f r = h
      go false e true f r = and_true _ _ (and_true _ _ f (below_all x f l (both (above l) (rising l) h).0)) h
      go false e false f r = and_true _ _
          (entered-every (λ y. x.timestamp below y.timestamp) l (both (above l) (rising l) h).0 (lt-ltb x.timestamp.0 w.timestamp.0
          (omega (arith, eqb-false w.timestamp.0 x.timestamp.0 e, ltb-false w.timestamp.0 x.timestamp.0 f)))) r

-- ---- all of them entered, one after the other

abbrev pub all_entered : List Write → List Write → List Write
all_entered l ws = fold (λ l w. entered w l) l ws

pub all_in : (P : Write → Type 0) (l ws : List Write) → Any P (all_entered l ws) → Any P l ⊎ Any P ws
unfolding fold
all_in P l [] h = inl h
all_in P l (w ∷ ws) h = elim (all_in P (entered w l) ws h) [
  | inl q ↦ elim (entered_in w P l q) [ inl p ↦ inr (inl p) | inr p ↦ inl p ]
  | inr q ↦ inr (inr q)
]

all_old : (P : Write → Type 0) (l ws : List Write) → Any P l → Any P (all_entered l ws)
unfolding fold
all_old P l [] h = h
all_old P l (w ∷ ws) h = all_old P (entered w l) ws (entered-old w P l h)

pub all_there : (u : ℕ) (l ws : List Write) → Any (IsTs u) ws → Any (IsTs u) (all_entered l ws)
unfolding fold
all_there u l [] h = absurd h
all_there u l (w ∷ ws) (inl h) = rw (sym h) (all_old (IsTs w.timestamp.0) (entered w l) ws (entered-new w l))
all_there u l (w ∷ ws) (inr h) = all_there u (entered w l) ws h

pub all_rises : (l ws : List Write) → rising l ≡ true → rising (all_entered l ws) ≡ true
unfolding fold
all_rises l [] h = h
all_rises l (w ∷ ws) h = all_rises (entered w l) ws (entered_rises w l h)
