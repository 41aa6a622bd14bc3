-- Moves of one cell: the globals stay
use Prim.Native.Nat.{ℕ, ◌≤◌, ◌<◌}
use mathlib.Core.Path.{◌≡◌, refl, sym, subst, ◌∙◌, ap}
use mathlib.Core.Logic.{◌⊎◌, inl, inr}
use mathlib.Core.Bool.{true, false, true≢false}
use native.Mathlib.Omega.{arith}
use Rattle.rules.proofs.Lists.{true_or_false}
use Rattle.one_copy.proofs.Tests.{at, at_all, not-both}
use Rattle.one_copy.proofs.Abs.{Mark, und, cmt, abt, read_k, write_k, Cell, Book, Flow, Live, IsLive, EntryOk, cmt≢abt, idle≢write_k, read_k≢write_k, CellOk, GlobOk, Seen, Inv}

module _ (S : ℕ → Type 0) where
  -- one cell moves, its last read does not fall: only that cell is to be looked at
  pub one_cell : (B : Book) (F : Flow) (cell : ℕ → Cell) (c : ℕ) (k : Cell) → Inv S B F cell → (S c → CellOk B F c k)
      → (cell c).rd ≤ k.rd → ((t : ℕ) → k.r t → S c) → Inv S B F (at c k cell)
  one_cell B F cell c k i ok up hm = record {
    home = at_all (λ j x. (t : ℕ) → x.r t → S j) c k cell hm (λ j _. i.home j);
    glob = i.glob;
    cells = at_all (λ j x. S j → CellOk B F j x) c k cell ok (λ j _. i.cells j);
    seen = λ t x h. let o : Seen S B cell t x = i.seen t x h in
        record {
          is_r = o.is_r;
          guard = o.guard;
          copy = o.copy;
          last = o.last;
          over =
              at_all (λ j x. t ≤ (cell j).rd → t ≤ x.rd) c k cell (λ e. omega arith) (λ j _ e. e) o.guard o.over;
        };
  }

  module _ (B : Book) (F : Flow) (c : ℕ) (k : Cell) (g : GlobOk S B F) (i : CellOk B F c k) where
    -- the last read is no write's timestamp
    pub not-read : (t : ℕ) → B.kind t ≡ write_k → k.rd ≡ t → ⊥
    not-read t h q = elim i.read_top [
      | inl e ↦ idle≢write_k (sym g.zero_k ∙ ap B.kind (sym e ∙ q) ∙ h)
      | inr e ↦ read_k≢write_k (sym e ∙ ap B.kind q ∙ h)
    ]

    -- a committed write that no waiting write comes before is carried out
    pub pop_cmt : (t v : ℕ) (w' : ℕ → ℕ → Mark → Type 0) (r' : ℕ → Type 0) → k.w t v cmt
        → ((u x : ℕ) (m : Mark) → k.w u x m → t ≤ u)
        → ((u x : ℕ) (m : Mark) → w' u x m → k.w u x m)
        → ((u x : ℕ) (m : Mark) → k.w u x m → w' u x m ⊎ (u ≡ t))
        → ((u : ℕ) → r' u → k.r u)
        → CellOk B F c (record { wr = t; rd = k.rd; val = v; lost = k.lost; w = w'; r = r' })
    pop_cmt t v w' r' h front sub keep rs = record {
      held = inr (i.done t v h, (i.waits t v cmt h).vals);
      read_top = i.read_top;
      waits = λ u x m e. let o = i.waits u x m (sub u x m e) in record {
        is_w = o.is_w;
        vals = o.vals;
        now = o.now;
        over_r = o.over_r;
        over_w = front u x m (sub u x m e);
      };
      reads = λ u e. i.reads u (rs u e);
      done = λ u x e. i.done u x (sub u x cmt e);
      dead = λ u x e. i.dead u x (sub u x abt e);
      live = λ l u p. elim (i.live l u p) [
        | inl q ↦ inl (omega (arith, (i.waits t v cmt h).over_w))
        | inr q ↦ elim (keep u q.0 q.1 q.2) [ inl e ↦ inr (q.0, q.1, e, q.3) | inr e ↦ inl (omega arith) ]
      ];
      gone = λ l u p. absurd (i.empty l t v cmt h);
      empty = λ l u x m e. i.empty l u x m (sub u x m e);
      promise = λ u a b e. elim (i.promise u a b e) [
        | inl q ↦ elim (keep u q.0 q.1 q.2) [
          | inl f ↦ inl (q.0, q.1, f, q.3)
          | inr f ↦ absurd (let z : B.ae u < B.era = g.own u (g.act_cur u a) (subst B.L (sym f) (i.done t v h)) in omega arith)
        ]
        | inr q ↦ absurd (i.empty q.0 t v cmt h)
      ];
    }

    -- the queue changes and nothing else: each entry is good, and no live write that matters goes
    pub requeue : (w' : ℕ → ℕ → Mark → Type 0) (r' : ℕ → Type 0)
        → ((u x : ℕ) (m : Mark) → w' u x m → EntryOk B F k u x m)
        → ((u : ℕ) → Live k u → ((x : ℕ) × (m : Mark) × w' u x m × IsLive m) ⊎ ((F.act u → ⊥) × (B.L u → ⊥)))
        → ((u : ℕ) → r' u → B.kind u ≡ read_k)
        → CellOk B F c (record { wr = k.wr; rd = k.rd; val = k.val; lost = k.lost; w = w'; r = r' })
    requeue w' r' good keep rs = record {
      held = i.held;
      read_top = i.read_top;
      waits = λ u x m e. let o = (good u x m e).fits in record {
        is_w = o.is_w;
        vals = o.vals;
        now = o.now;
        over_r = o.over_r;
        over_w =
            o.over_w;
      };
      reads = rs;
      done = λ u x e. (good u x cmt e).done refl;
      dead = λ u x e. (good u x abt e).dead refl;
      live = λ l u p. elim (i.live l u p) [ inl q ↦ inl q | inr q ↦ elim (keep u q) [ inl e ↦ inr e | inr e ↦ absurd (e.1 p) ] ];
      gone = i.gone;
      empty = λ l u x m e. not-both k.lost l (good u x m e).kept;
      promise = λ u a b e. elim (i.promise u a b e) [
        | inl q ↦ elim (keep u q) [ inl f ↦ inl f | inr f ↦ absurd (f.0 a) ]
        | inr q ↦
            inr q
      ];
    }

    -- an entry of the old queue is good
    pub was : (u x : ℕ) (m : Mark) → k.lost ≡ false → k.w u x m → EntryOk B F k u x m
    was u x m l h = record { fits = i.waits u x m h; done = λ e. i.done u x (rw e at h); dead = λ e. i.dead u x (rw e at h); kept = l }

    -- a commit arrives at an undecided write
    pub mark_cmt : (t v : ℕ) (w' : ℕ → ℕ → Mark → Type 0) (r' : ℕ → Type 0) → ((u : ℕ) → r' u → k.r u) → k.lost ≡ false → F.comm t
        → k.w t v und
        → ((u x : ℕ) (m : Mark) → w' u x m → k.w u x m ⊎ ((u ≡ t) × (x ≡ v) × (m ≡ cmt)))
        → ((u x : ℕ) (m : Mark) → k.w u x m → w' u x m ⊎ (u ≡ t)) → w' t v cmt
        → CellOk B F c (record { wr = k.wr; rd = k.rd; val = k.val; lost = k.lost; w = w'; r = r' })
    mark_cmt t v w' r' rs l b h sub keep new = requeue w' r'
        (λ u x m e. elim (sub u x m e) [
          | inl q ↦ was u x m l q
          | inr q ↦ record {
            fits = rw (q.0, q.1) (i.waits t v und h);
            done =
                λ _. rw q.0 (elim (g.told t b) [
                  | inl z ↦ z
                  | inr z ↦ absurd
                      (let a = g.stale t z in let d = (i.waits t v und h).now in omega arith)
                ]);
            dead = λ f. absurd (cmt≢abt (sym q.2 ∙ f));
            kept = l;
          }
        ])
        (λ u q. inl (elim (keep u q.0 q.1 q.2) [ inl e ↦ (q.0, q.1, e, q.3) | inr e ↦ (v, cmt, rw e new, tt) ]))
        (λ u e. i.reads u (rs u e))

    -- an abort arrives at an undecided write
    pub mark_abt : (t v : ℕ) (w' : ℕ → ℕ → Mark → Type 0) (r' : ℕ → Type 0) → ((u : ℕ) → r' u → k.r u) → k.lost ≡ false → F.abtm t
        → k.w t v und
        → ((u x : ℕ) (m : Mark) → w' u x m → k.w u x m ⊎ ((u ≡ t) × (x ≡ v) × (m ≡ abt)))
        → ((u x : ℕ) (m : Mark) → k.w u x m → w' u x m ⊎ (u ≡ t))
        → CellOk B F c (record { wr = k.wr; rd = k.rd; val = k.val; lost = k.lost; w = w'; r = r' })
    mark_abt t v w' r' rs l b h sub keep = requeue w' r'
        (λ u x m e. elim (sub u x m e) [
          | inl q ↦ was u x m l q
          | inr q ↦ record {
            fits = rw (q.0, q.1) (i.waits t v und h);
            done = λ f. absurd (cmt≢abt (sym f ∙ q.2));
            dead =
                λ _. rw q.0 no;
            kept = l;
          }
        ])
        (λ u q. elim (keep u q.0 q.1 q.2) [ inl e ↦ inl (q.0, q.1, e, q.3) | inr e ↦ inr (rw e no) ])
        (λ u e. i.reads u (rs u e))
      where
        no : (F.act t → ⊥) × (B.L t → ⊥)
        no = (λ a. (g.dead t b).0 (g.act_cur t a), λ p. let o = (i.waits t v und h).now in let z = (g.dead t b).1 p in omega arith)

    -- an aborted write, or a read, leaves
    pub pop_abt : (w' : ℕ → ℕ → Mark → Type 0) (r' : ℕ → Type 0) → k.lost ≡ false
        → ((u x : ℕ) (m : Mark) → w' u x m → k.w u x m)
        → ((u x : ℕ) (m : Mark) → k.w u x m → w' u x m ⊎ (m ≡ abt)) → ((u : ℕ) → r' u → k.r u)
        → CellOk B F c (record { wr = k.wr; rd = k.rd; val = k.val; lost = k.lost; w = w'; r = r' })
    pop_abt w' r' l sub keep rs = requeue w' r' (λ u x m e. was u x m l (sub u x m e))
        (λ u q. inl (elim (keep u q.0 q.1 q.2) [ inl e ↦ (q.0, q.1, e, q.3) | inr e ↦ absurd (rw e at q.3) ]))
        (λ u e. i.reads u (rs u e))

    -- the chunk fails: nothing waits, what persists stays, the promises become those of a lost chunk
    pub fail : CellOk B F c (record { wr = k.wr; rd = k.rd; val = k.val; lost = true; w = λ _ _ _. ⊥; r = λ _. ⊥ })
    fail = record {
      held = i.held;
      read_top = i.read_top;
      waits = λ u x m e. absurd e;
      reads = λ u e. absurd e;
      done = λ u x e. absurd e;
      dead = λ u x e. absurd e;
      live = λ l u p. absurd (true≢false l);
      gone = λ _ u p. elim (true_or_false k.lost) [
        | inl l ↦ i.gone l u p
        | inr l ↦ elim (i.live l u p) [ inl q ↦ inl q | inr q ↦ inr (i.waits u q.0 q.1 q.2).over_r ]
      ];
      empty = λ _ u x m e. e;
      promise = λ u a b e. inr (elim (i.promise u a b e) [
        | inl q ↦ let o = i.waits u q.0 q.1 q.2 in (refl, o.over_r, o.over_w)
        | inr q ↦ (refl, q.1, q.2)
      ]);
    }
