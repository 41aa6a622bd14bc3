-- The epoch change of one block
use Prim.Native.Nat.{ℕ, suc, ◌≤◌, ◌<◌}
use mathlib.Core.Path.{◌≡◌, sym, ◌∙◌, ap}
use mathlib.Core.Logic.{◌⊎◌, inl, inr}
use mathlib.Core.Bool.{true, false, true≢false}
use native.Mathlib.Omega.{arith}
use Rattle.rules.proofs.Lists.{true_or_false}
use Rattle.one_copy.proofs.Tests.{le_or_lt, not-both}
use Rattle.one_copy.proofs.Abs.{Mark, abt, write_k, Cell, Book, Flow, Promise, Wrote, idle≢write_k, GlobOk, Inv}
use Rattle.one_copy.proofs.Decide.{agreed}

-- what makes a write timestamp above W committed by an epoch change
pub record Chosen (S : ℕ → Type 0) (cell : ℕ → Cell) (W t : ℕ) : Type 0 where
  pub above : W < t
  pub holds : (c : ℕ) → S c → (cell c).lost ≡ false → (v : ℕ) × (m : Mark) × (cell c).w t v m
  pub clean : (c : ℕ) → S c → (cell c).lost ≡ false → (v : ℕ) → (cell c).w t v abt → ⊥
  pub unread : (c : ℕ) → S c → (cell c).lost ≡ true → (cell c).rd < t

pub record Settling (S : ℕ → Type 0) (cell : ℕ → Cell) (W Y N X M : ℕ) : Type 0 where
  pub at_w : ℕ
  pub at_w_in : S at_w
  pub at_w-wr : (cell at_w).wr ≡ W
  pub at_w-val : (cell at_w).val ≡ Y
  pub top_w : (c : ℕ) → S c → (cell c).wr ≤ W
  pub at_m : ℕ
  pub at_m_in : S at_m
  pub at_m-rd : (cell at_m).rd ≡ M
  pub top_m : (c : ℕ) → S c → (cell c).rd ≤ M
  pub alive : ℕ
  pub alive_in : S alive
  pub alive_is : (cell alive).lost ≡ false
  pub pick : (((t : ℕ) → Chosen S cell W t → ⊥) × (N ≡ W) × (X ≡ Y))
      ⊎ (Chosen S cell W N × ((t : ℕ) → Chosen S cell W t → t ≤ N) × ((c : ℕ) × (m : Mark) × S c × (cell c).w N X m))

-- every copy after the change
abbrev pub settled_cell : ℕ → ℕ → ℕ → ℕ → Cell
settled_cell N X M c = record { wr = N; rd = M; val = X; lost = false; w = λ _ _ _. ⊥; r = λ _. ⊥ }

-- the era grows, what is chosen is listed
abbrev pub settled_book : Book → (ℕ → Type 0) → Book
settled_book B chosen = record {
  era = suc B.era;
  kind = B.kind;
  value = B.value;
  ae = B.ae;
  L = λ u. B.L u ⊎ chosen u;
  Void =
      B.Void;
}

module _ (S : ℕ → Type 0) (B : Book) (F : Flow) (cell : ℕ → Cell) (i : Inv S B F cell) (W Y N X M : ℕ) (s : Settling S cell W Y N X M) where
  -- a listed write is below W or chosen
  covered : (t : ℕ) → B.L t → (t ≤ W) ⊎ Chosen S cell W t
  covered t p = elim (le_or_lt t W) [
    | inl q ↦ inl q
    | inr q ↦ inr (record {
      above = q;
      holds = λ c m l. elim ((i.cells c m).live l t p) [
        | inl z ↦ absurd (let y = s.top_w c m in omega arith)
        | inr z ↦
            (z.0, z.1, z.2)
      ];
      clean = λ c m l v h. ((i.cells c m).dead t v h).1 p;
      unread = λ c m l. elim ((i.cells c m).gone l t p) [ inl z ↦ absurd (let y = s.top_w c m in omega arith) | inr z ↦ z ];
    })
  ]

  -- so is a write that all have promised
  promised : (t : ℕ) → F.act t → ((c : ℕ) → S c → Promise (cell c) t) → B.L t ⊎ Chosen S cell W t
  promised t a all = elim (le_or_lt t W) [
    | inl q ↦ (let o = i.cells s.at_w s.at_w_in in
        let e : t ≡ (cell s.at_w).wr = (let z = s.at_w-wr in elim (all s.at_w s.at_w_in) [
          | inl h ↦ (let y = (o.waits t h.0 h.1 h.2).over_w in omega arith)
          | inr h ↦ omega (arith, h.2)
        ]) in
        elim o.held [
          | inl h ↦ absurd (idle≢write_k (sym g.zero_k ∙ ap B.kind (sym (e ∙ h.0)) ∙ g.cur_k t (g.act_cur t a)))
          | inr h ↦ inl (rw e h.0)
        ])
    | inr q ↦ inr (record {
      above = q;
      holds = λ c m l. elim (all c m) [ inl z ↦ (z.0, z.1, z.2) | inr z ↦ absurd (not-both (cell c).lost z.0 l) ];
      clean = λ c m l v h. ((i.cells c m).dead t v h).0 a;
      unread = λ c m l. elim (all c m) [ inl z ↦ absurd ((i.cells c m).empty l t z.0 z.1 z.2) | inr z ↦ z.1 ];
    })
  ]
    where
      g : GlobOk S B F
      g = i.glob

  -- what is chosen is a write attempt
  chosen_w : (t : ℕ) → Chosen S cell W t → B.kind t ≡ write_k
  chosen_w t h = let z = h.holds s.alive s.alive_in s.alive_is in
      ((i.cells s.alive s.alive_in).waits t z.0 z.1 z.2).is_w

  -- no read has passed a chosen write
  unpassed : (t : ℕ) → Chosen S cell W t → (c : ℕ) → S c → (cell c).rd < t
  unpassed t h c m = elim (true_or_false (cell c).lost) [
    | inl l ↦ h.unread c m l
    | inr l ↦ (let z = h.holds c m l in ((i.cells c m).waits t z.0 z.1 z.2).over_r)
  ]

  -- the new value is the last listed write's
  pub settled-wrote : Wrote (settled_book B (Chosen S cell W)) N X
  settled-wrote = elim s.pick [
    | inl p ↦ rw (p.1, p.2, ← s.at_w-wr, ← s.at_w-val)
        (elim (i.cells s.at_w s.at_w_in).held [ inl h ↦ inl h | inr h ↦ inr (inl h.0, h.1) ])
    | inr p ↦ inr (inr p.0, (let z = p.2 in ((i.cells z.0 z.2).waits N X z.1 z.3).vals))
  ]

  -- none listed is above it
  pub settled-most : (t : ℕ) → B.L t ⊎ Chosen S cell W t → t ≤ N
  settled-most t = elim [ inl p ↦ elim (covered t p) [ inl q ↦ le t q | inr q ↦ ch t q ] | inr q ↦ ch t q ]
    where
      ch : (t : ℕ) → Chosen S cell W t → t ≤ N
      ch t h = elim s.pick [ inl p ↦ absurd (p.0 t h) | inr p ↦ p.1 t h ]

      le : (t : ℕ) → t ≤ W → t ≤ N
      le t h = elim s.pick [ inl p ↦ omega (arith, p.1) | inr p ↦ (let z = p.0.above in omega arith) ]

  -- the epoch change keeps the invariant
  pub settle : Inv S (settled_book B (Chosen S cell W)) F (settled_cell N X M)
  settle = record {
    home = λ c t h. absurd h;
    glob = record {
      zero_k = g.zero_k;
      ack_k = g.ack_k;
      abt_k = g.abt_k;
      rdm_k = g.rdm_k;
      cur_k = g.cur_k;
      act_cur = g.act_cur;
      pre_k = λ c u e v h. let p = g.pre_k c u e v h in record { is_w = p.is_w; vals = p.vals; known = p.known };
      list_k = lk;
      past = λ t h. (let z = g.past t h in omega arith);
      own = λ t _ p. (let z = g.past t (lk t p) in omega arith);
      dead = λ t h. ((g.dead t h).0, λ p. (let z = g.past t (lk t p) in omega arith));
      told = λ t h. more t (g.told t h);
      old = λ t a _ all. elim (agreed S B F cell i t a all) [ inl p ↦ more t p | inr p ↦ inl (promised t a p) ];
      stale = λ t h. (let z = g.stale t h in omega arith);
    };
    cells = λ c m. record {
      held = settled-wrote;
      read_top = rw (← s.at_m-rd) (i.cells s.at_m s.at_m_in).read_top;
      waits = λ u x b h. absurd h;
      reads = λ u h. absurd h;
      done = λ u x h. absurd h;
      dead = λ u x h. absurd h;
      live = λ _ u p. inl (settled-most u p);
      gone = λ l. absurd (true≢false (sym l));
      empty = λ l u x b h. h;
      promise = λ u a b e. absurd (let z = g.past u (g.cur_k u (g.act_cur u a)) in omega arith);
    };
    seen = λ r x h. let o = i.seen r x h in let p = o.last in record {
      is_r = o.is_r;
      guard = o.guard;
      copy = o.copy;
      over = (let z = s.top_m o.guard o.copy in let y = o.over in omega arith);
      last = record {
        top = p.top;
        below = p.below;
        wrote = elim p.wrote [ inl z ↦ inl z | inr z ↦ inr (inl z.0, z.1) ];
        most = λ u. elim [
          | inl z ↦ p.most u z
          | inr z ↦ λ b. absurd (let y = unpassed u z o.guard o.copy in let v = o.over in
              omega arith)
        ];
      };
    };
  }
    where
      g : GlobOk S B F
      g = i.glob

      more : (t : ℕ) → B.L t ⊎ B.Void t → (B.L t ⊎ Chosen S cell W t) ⊎ B.Void t
      more t = elim [ inl p ↦ inl (inl p) | inr p ↦ inr p ]

      lk : (t : ℕ) → B.L t ⊎ Chosen S cell W t → B.kind t ≡ write_k
      lk t = elim [ inl p ↦ g.list_k t p | inr p ↦ chosen_w t p ]
