-- What a host is at was begun: from the table to the attempts that the events tell of
use Prim.Native.Nat.{ℕ, ◌<◌}
use mathlib.Core.Path.{◌≡◌, refl, sym, subst, subst⁻¹, ◌∙◌, ap}
use mathlib.Core.Logic.{◌⊎◌, inl, inr}
use mathlib.Core.Bool.{Bool, true, false, cond, not}
use mathlib.Core.List.{List, [], ◌∷◌}
use native.Mathlib.Omega.{arith}
use lib.Dec.{eqb}
use borrow.Author.Tests.{ltb-true, lt-ltb, eq-eqb}
use Rattle.one_copy.specs.Types.{Timestamp, Creation, Action, Operation, Host, Table, Event, Outcome, Answer}
use Rattle.one_copy.specs.Listed.{write, committed_at, writes, is_attempt}
use Rattle.rules.specs.Creation.{fresh}
use Rattle.rules.specs.Events.{step}
use Rattle.rules.specs.Hosts.{front, done_as, failed_as, finish_outcome}
use Rattle.rules.specs.Kinds.{is_reading}
use Rattle.rules.specs.Limits.{host_limit}
use Rattle.rules.specs.Runs.{after, told, Begun, begun, no_attempt, last_of}
use Rattle.rules.specs.Tables.{host_of}
use Rattle.rules.specs.Words.{fold}
use Rattle.rules.proofs.Begun.{Finish, none_or_finish, Current, current_is, begun_more, agrees}
use Rattle.rules.proofs.Formed.{host-place}
use Rattle.rules.proofs.Lists.{and_true, walk}
use Rattle.one_copy.proofs.Lists.{Any, any_map, any_left}
use Rattle.one_copy.proofs.View.{seats_of, written, IsIt, HasW}
use Rattle.one_copy.proofs.Good.{Trying, none_done}
use Rattle.one_copy.proofs.History.{Tried}

-- a host's last attempt is one of them, where there is one
last_in : (h : ℕ) (l : List Begun) (x : Begun)
    → (fold (λ last x. cond (eqb x.host h) x last) x l ≡ x) ⊎ Any (λ y. y ≡ fold (λ last x. cond (eqb x.host h) x last) x l) l
unfolding fold
last_in h [] x = inl refl
last_in h (y ∷ l) x = elim (last_in h l (cond (eqb y.host h) y x)) [
  | inl q ↦ elim (walk (λ (z : Begun). (z ≡ x) ⊎ (y ≡ z)) (eqb y.host h) y x (λ _. inr refl) (λ _. inl refl)) [
    | inl p ↦ inl (q ∙ p)
    | inr p ↦ inr (inl (p ∙ sym q))
  ]
  | inr q ↦ inr (inr q)
]

-- ---- what a finish's outcome says of the host that it finds

module _ (j : ℕ) (x : Host) where
  abbrev outcome_by : Bool → Bool → Action → Outcome
  outcome_by okay restart a = cond okay (done_as j (front x) a x.attempt.result) (cond restart Outcome.None (failed_as j (front x) a))

  -- a read done: whose
  read_done : (h b v : ℕ) → finish_outcome j x ≡ Outcome.ReadDone h b v → h ≡ j
  unfolding finish_outcome
  read_done h b v = go x.attempt.okay x.attempt.restart (front x).action
    where
      go : (okay restart : Bool) (a : Action) → outcome_by okay restart a ≡ Outcome.ReadDone h b v → h ≡ j
      go true r Action.Read q = cc
      go true r (Action.Write w) q = absurd (let z : ◌≡◌ {A = ℕ} 0 1 = cc in omega arith)
      go false true a q = absurd (let z : ◌≡◌ {A = ℕ} 0 1 = cc in omega arith)
      go false false Action.Read q = absurd (let z : ◌≡◌ {A = ℕ} 0 1 = cc in omega arith)
      go false false (Action.Write w) q = absurd (let z : ◌≡◌ {A = ℕ} 0 1 = cc in omega arith)

  -- a write done: whose, and that it is an okay write of the block
  pub record WriteDone (h b : ℕ) : Type 0 where
    pub host : h ≡ j
    pub okay : x.attempt.okay ≡ true
    pub block : (front x).block ≡ b
    pub value : ℕ
    pub action : (front x).action ≡ Action.Write value

  write_done : (h b : ℕ) → finish_outcome j x ≡ Outcome.WriteDone h b → WriteDone h b
  unfolding finish_outcome
  write_done h b = go x.attempt.okay refl x.attempt.restart (front x).action refl
    where
      go : (okay : Bool) → x.attempt.okay ≡ okay → (restart : Bool) (a : Action) → (front x).action ≡ a
          → outcome_by okay restart a ≡ Outcome.WriteDone h b → WriteDone h b
      go true e r (Action.Write w) f q = record { host = cc; okay = e; block = cc; value = w; action = f }
      go true e r Action.Read f q = absurd (let z : ◌≡◌ {A = ℕ} 0 1 = cc in omega arith)
      go false e true a f q = absurd (let z : ◌≡◌ {A = ℕ} 0 1 = cc in omega arith)
      go false e false Action.Read f q = absurd (let z : ◌≡◌ {A = ℕ} 0 1 = cc in omega arith)
      go false e false (Action.Write w) f q = absurd (let z : ◌≡◌ {A = ℕ} 0 1 = cc in omega arith)

module _ (k : Creation) (es : List Event) where
  abbrev t : Table
  t = after (fresh k) es

  abbrev all : List Begun
  all = begun (told (fresh k) es)

  -- a host at work is at its last attempt
  pub at_last : (j : ℕ) → j < host_limit → 0 < (host_of t j).attempt.timestamp.0 → Current j (last_of j all) (host_of t j)
  at_last j l p =
      current_is j _ (last_of j all) (host_of t j) (agrees k es j l) (lt-ltb 0 (host_of t j).attempt.timestamp.0 p)

  -- a host at a write of the block: its last attempt is that write
  pub trying-last : (b u v j : ℕ) → j < host_limit → HasW b (seats_of t j) u → (seats_of t j).value ≡ v
      → is_attempt b (write (record { 0 = u }) v) (last_of j all) ≡ true
  trying-last b u v j l w e =
      let c = at_last j l (omega (arith, w.stamp, w.pos)) in
      let o = ap (λ (o : Operation). o.action) c.front in
      and_true _ _ (and_true _ _
      (eq-eqb (last_of j all).timestamp.0 u (ap (λ (s : Timestamp). s.0) (sym c.timestamp) ∙ w.stamp))
      (eq-eqb (last_of j all).taken.operation.block b (ap (λ (o : Operation). o.block) (sym c.front) ∙ w.block)))
      (go (last_of j all).taken.operation.action
      (subst (λ (a : Action). not (is_reading a) ≡ true) o w.write) (subst (λ (a : Action). written a ≡ v) o e))
    where
      go : (a : Action) → not (is_reading a) ≡ true → written a ≡ v → writes v a ≡ true
      go Action.Read q z = q
      go (Action.Write x) q z = eq-eqb x v z

  -- and it is among those begun
  tried-now : (b u v : ℕ) → Trying b t u v → Any (λ x. is_attempt b (write (record { 0 = u }) v) x ≡ true) all
  unfolding last_of
  tried-now b u v w = elim (last_in w.host all no_attempt) [
    | inl q ↦ (let c = at_last w.host w.place (omega (arith, w.at.stamp, w.at.pos)) in
        absurd (omega (arith, w.at.stamp, w.at.pos, ap (λ (s : Timestamp). s.0) c.timestamp, ap (λ (x : Begun). x.timestamp.0) q)))
    | inr q ↦ any_map (λ y. y ≡ last_of w.host all) (λ x. is_attempt b (write (record { 0 = u }) v) x ≡ true)
        (λ x e. subst⁻¹ (λ (x : Begun). is_attempt b (write (record { 0 = u }) v) x ≡ true) e
        (trying-last b u v w.host w.place w.at w.value)) all q
  ]

  -- ---- an answer of "done" is about the last attempt of its host

  module _ (e : Event) where
    -- the host that a finish finds
    finish_host : Finish t e (step t e) → e.a < host_limit
    finish_host f = host-place t.creation e.a f.host f.formed.creation

    pub done-read : (h b v : ℕ) → (step t e).outcome ≡ Outcome.ReadDone h b v → (host_of t h).attempt.timestamp ≡ (last_of h all).timestamp
    done-read h b v q = elim (none_or_finish t e) [
      | inl n ↦ absurd (none_done h b v (sym n ∙ q))
      | inr f ↦ subst⁻¹ (λ (j : ℕ). (host_of t j).attempt.timestamp ≡ (last_of j all).timestamp)
          (read_done e.a (host_of t e.a) h b v (sym f.outcome ∙ q))
          (at_last e.a (finish_host f) (ltb-true 0 (host_of t e.a).attempt.timestamp.0 f.current)).timestamp
    ]

    -- a write done is committed, and is the last attempt
    pub record Done (b h : ℕ) : Type 0 where
      pub timestamp : ℕ
      pub value : ℕ
      pub commits : Any (IsIt timestamp value) (committed_at b t e (step t e))
      pub is_last : is_attempt b (write (record { 0 = timestamp }) value) (last_of h all) ≡ true

    by-host : (x : Answer) (b v : ℕ) → e.kind ≡ 6 → x.code ≡ 0 → (host_of t e.a).attempt.okay ≡ true
        → (front (host_of t e.a)).block ≡ b → (front (host_of t e.a)).action ≡ Action.Write v
        → Any (IsIt (host_of t e.a).attempt.timestamp.0 v) (committed_at b t e x)
    by-host x b v k c o d a = rw (c, k, o, eq-eqb (front (host_of t e.a)).block b d, a) (inl (refl, refl))

    pub done-write : (h b : ℕ) → (step t e).outcome ≡ Outcome.WriteDone h b → Done b h
    done-write h b q = elim (none_or_finish t e) [
      | inl n ↦ absurd (let z : ◌≡◌ {A = ℕ} 0 1 = cc in omega arith)
      | inr f ↦ (let x = host_of t e.a in
          let w = write_done e.a x h b (sym f.outcome ∙ q) in
          record {
            timestamp = x.attempt.timestamp.0;
            value = w.value;
            commits = by-host (step t e) b w.value f.kind f.code w.okay w.block w.action;
            is_last = subst⁻¹ (λ (j : ℕ). is_attempt b (write x.attempt.timestamp w.value) (last_of j all) ≡ true) w.host
                (trying-last b x.attempt.timestamp.0 w.value e.a (finish_host f)
                (record {
                  stamp = refl;
                  pos = ltb-true 0 x.attempt.timestamp.0 f.current;
                  write = rw w.action refl;
                  block = w.block;
                })
                (rw w.action refl));
          })
    ]

-- what a host was at somewhere in the run is among those begun
pub tried-begun : (k : Creation) (es : List Event) (b u v : ℕ) → Tried b (fresh k) es u v
    → Any (λ x. is_attempt b (write (record { 0 = u }) v) x ≡ true) (begun (told (fresh k) es))
tried-begun k es b u v z =
    let P : Begun → Type 0 = λ x. is_attempt b (write (record { 0 = u }) v) x ≡ true in
    let more = begun_more (fresh k) z.0 z.1 in
    subst⁻¹ (λ (fs : List Event). Any P (begun (told (fresh k) fs))) z.2
    (subst⁻¹ (Any P) more.1 (any_left P (begun (told (fresh k) z.0)) more.0 (tried-now k z.0 b u v z.3)))
