-- Moves that change what hosts and the network hold
use Prim.Native.Nat.{ℕ, ◌≤◌, ◌<◌}
use mathlib.Core.Path.{◌≡◌, refl, sym, ◌∙◌, ap}
use mathlib.Core.Logic.{◌⊎◌, inl, inr}
use mathlib.Core.Bool.{false}
use native.Mathlib.Omega.{arith}
use Rattle.one_copy.proofs.Tests.{at, at_all, at_same, not-both}
use Rattle.one_copy.proofs.Abs.{Mark, und, read_k, write_k, Cell, Book, Flow, Promise, Last, EntryOk, Pre, und≢cmt, und≢abt, read_k≢write_k, idle≢read_k, CellOk, GlobOk, Inv}
use Rattle.one_copy.proofs.Cells.{requeue, was, not-read}

pub record Sub (F' F : Flow) : Type 0 where
  pub cur : (t : ℕ) → F'.cur t → F.cur t
  pub act : (t : ℕ) → F'.act t → F.act t × F'.cur t
  pub ack : (t c : ℕ) → F'.ack t c → F.ack t c
  pub pre : (c t e v : ℕ) → F'.pre c t e v → F.pre c t e v
  pub rdm : (c t : ℕ) → F'.rdm c t → F.rdm c t
  pub comm : (t : ℕ) → F'.comm t → F.comm t
  pub abtm : (t : ℕ) → F'.abtm t → F.abtm t
  pub seen : (t x : ℕ) → F'.seen t x → F.seen t x

-- chunk c has answered t
abbrev pub acked : Flow → ℕ → ℕ → Flow
acked F t c = record {
  cur = F.cur;
  act = F.act;
  ack = λ u d. F.ack u d ⊎ ((u ≡ t) × (d ≡ c));
  pre = F.pre;
  rdm = F.rdm;
  comm =
      F.comm;
  abtm = F.abtm;
  seen = F.seen;
}

-- t waits, undecided
abbrev pub queued : Cell → ℕ → ℕ → Cell
queued k t v = record {
  wr = k.wr;
  rd = k.rd;
  val = k.val;
  lost = k.lost;
  w = λ u x m. k.w u x m ⊎ ((u ≡ t) × (x ≡ v) × (m ≡ und));
  r = k.r;
}

-- read t got x
abbrev pub answered : Flow → ℕ → ℕ → Flow
answered F t x = record {
  cur = F.cur;
  act = F.act;
  ack = F.ack;
  pre = F.pre;
  rdm = F.rdm;
  comm = F.comm;
  abtm = F.abtm;
  seen =
      λ u y. F.seen u y ⊎ ((u ≡ t) × (y ≡ x));
}

-- the last read is raised, a read has gone
abbrev pub read_at : Cell → ℕ → (ℕ → Type 0) → Cell
read_at k rd' r' = record { wr = k.wr; rd = rd'; val = k.val; lost = k.lost; w = k.w; r = r' }

-- a cell under another flow
pub reflow : (B : Book) (F F' : Flow) (c : ℕ) (k : Cell) → CellOk B F c k → ((t : ℕ) → F'.act t → F.act t)
    → ((t : ℕ) → F'.act t → F'.ack t c → B.ae t ≡ B.era → Promise k t) → CellOk B F' c k
reflow B F F' c k i sub p = record {
  held = i.held;
  read_top = i.read_top;
  waits = i.waits;
  reads = i.reads;
  done = i.done;
  live = i.live;
  gone = i.gone;
  empty = i.empty;
  promise = p;
  dead = λ t v h. (λ a. (i.dead t v h).0 (sub t a), (i.dead t v h).1);
}

module _ (S : ℕ → Type 0) (B : Book) (F : Flow) (cell : ℕ → Cell) (i : Inv S B F cell) where
  -- what hosts and the network hold becomes less
  pub shrink : (F' : Flow) → Sub F' F → Inv S B F' cell
  shrink F' s = let g = i.glob in record {
    glob = record {
      zero_k = g.zero_k;
      list_k = g.list_k;
      past = g.past;
      stale = g.stale;
      cur_k = λ t h. g.cur_k t (s.cur t h);
      act_cur = λ t h. (s.act t h).1;
      ack_k = λ t c h. g.ack_k t c (s.ack t c h);
      abt_k = λ t h. g.abt_k t (s.abtm t h);
      pre_k = λ c t e v h. g.pre_k c t e v (s.pre c t e v h);
      rdm_k = λ c t h. g.rdm_k c t (s.rdm c t h);
      own = λ t h. g.own t (s.cur t h);
      dead = λ t h. (λ c. (g.dead t (s.abtm t h)).0 (s.cur t c), (g.dead t (s.abtm t h)).1);
      told = λ t h. g.told t (s.comm t h);
      old = λ t a o all. g.old t (s.act t a).0 o (λ c m. s.ack t c (all c m));
    };
    cells = λ c m. reflow B F F' c (cell c) (i.cells c m) (λ t a. (s.act t a).0)
        (λ t a b. (i.cells c m).promise t (s.act t a).0 (s.ack t c b));
    seen = λ t x h. i.seen t x (s.seen t x h);
    home = i.home;
  }

  -- a chunk takes a prewrite of its own epoch, and answers
  pub accept : (c t e v : ℕ) → F.pre c t e v → e ≡ B.era → (cell c).lost ≡ false → (cell c).wr ≤ t → (cell c).rd ≤ t
      → Inv S B (acked F t c) (at c (queued (cell c) t v) cell)
  accept c t e v h now l ow or = record {
    home = at_all (λ j x. (u : ℕ) → x.r u → S j) c (queued (cell c) t v) cell (i.home c) (λ j _. i.home j);
    glob = record {
      zero_k = g.zero_k;
      list_k = g.list_k;
      past = g.past;
      stale = g.stale;
      cur_k = g.cur_k;
      act_cur = g.act_cur;
      abt_k = g.abt_k;
      pre_k = g.pre_k;
      rdm_k = g.rdm_k;
      own = g.own;
      dead = g.dead;
      told = g.told;
      ack_k = λ u d. elim [ inl q ↦ g.ack_k u d q | inr q ↦ rw q.0 p.is_w ];
      old = λ u a o all. g.old u a o
          (λ d m. elim (all d m) [
            | inl q ↦ q
            | inr q ↦ absurd (let z : B.ae u ≡ B.ae t = ap B.ae q.0 in let y = p.known in
                omega arith)
          ]);
    };
    cells = at_all (λ j x. S j → CellOk B (acked F t c) j x) c (queued (cell c) t v) cell hit
        (λ j n m. reflow B F (acked F t c) j (cell j) (i.cells j m) (λ t a. a)
        (λ t a. elim [ inl q ↦ (i.cells j m).promise t a q | inr q ↦ absurd (n q.1) ]));
    seen = λ u x q. let o = i.seen u x q in record {
      is_r = o.is_r;
      guard = o.guard;
      copy = o.copy;
      last = o.last;
      over =
          at_all (λ j x. u ≤ (cell j).rd → u ≤ x.rd) c (queued (cell c) t v) cell (λ a. a) (λ j _ a. a) o.guard o.over;
    };
  }
    where
      g : GlobOk S B F
      g = i.glob

      p : Pre B t e v
      p = g.pre_k c t e v h

      hit : S c → CellOk B (acked F t c) c (queued (cell c) t v)
      hit m = let o = i.cells c m in
          let n : (cell c).rd ≡ t → ⊥ = λ q. not-read S B F c (cell c) g o t p.is_w q in
          let new : (u x : ℕ) (a : Mark) → (u ≡ t) × (x ≡ v) × (a ≡ und) → EntryOk B F (cell c) u x a = λ u x a q. record {
            fits = record {
              is_w = rw q.0 p.is_w;
              vals = rw (q.0, q.1) p.vals;
              now = rw q.0 (p.known ∙ now);
              over_w =
                  omega (arith, q.0);
              over_r = omega (arith, q.0);
            };
            done = λ f. absurd (und≢cmt (sym q.2 ∙ f));
            dead = λ f. absurd (und≢abt (sym q.2 ∙ f));
            kept = l;
          } in
          let base = requeue S B F c (cell c) g o (queued (cell c) t v).w (cell c).r
          (λ u x a. elim [ inl q ↦ was S B F c (cell c) g o u x a l q | inr q ↦ new u x a q ])
          (λ u q. inl (q.0, q.1, inl q.2, q.3)) o.reads in
          reflow B F (acked F t c) c (queued (cell c) t v) base (λ u a. a)
          (λ u a. elim [ inl q ↦ base.promise u a q | inr q ↦ λ _. inl (v, und, inr (q.0, refl, refl), tt) ])

  -- a read that no waiting write comes before is answered
  pub pop_read : (c t rd' : ℕ) (r' : ℕ → Type 0) → (cell c).lost ≡ false → (cell c).r t → (cell c).wr ≤ t
      → ((u x : ℕ) (m : Mark) → (cell c).w u x m → t ≤ u) → ((u : ℕ) → r' u → (cell c).r u)
      → t ≤ rd' → (cell c).rd ≤ rd' → (rd' ≡ t) ⊎ (rd' ≡ (cell c).rd)
      → Inv S B (answered F t (cell c).val) (at c (read_at (cell c) rd' r') cell)
  pop_read c t rd' r' l h ow front sub ut ur pick = record {
    home = at_all (λ j x. (u : ℕ) → x.r u → S j) c (read_at (cell c) rd' r') cell (λ u q. i.home c u (sub u q)) (λ j _. i.home j);
    glob = record {
      zero_k = g.zero_k;
      list_k = g.list_k;
      past = g.past;
      stale = g.stale;
      cur_k = g.cur_k;
      act_cur = g.act_cur;
      ack_k =
          g.ack_k;
      abt_k = g.abt_k;
      pre_k = g.pre_k;
      rdm_k = g.rdm_k;
      own = g.own;
      dead = g.dead;
      told = g.told;
      old = g.old;
    };
    cells = at_all (λ j x. S j → CellOk B (answered F t (cell c).val) j x) c (read_at (cell c) rd' r') cell (λ _. hit)
        (λ j n m. reflow B F (answered F t (cell c).val) j (cell j) (i.cells j m) (λ t a. a) (i.cells j m).promise);
    seen = λ u x. elim [
      | inl q ↦ let p = i.seen u x q in record {
        is_r = p.is_r;
        guard = p.guard;
        copy = p.copy;
        last = p.last;
        over =
            at_all (λ j x. u ≤ (cell j).rd → u ≤ x.rd) c (read_at (cell c) rd' r') cell (λ a. omega arith) (λ j _ a. a) p.guard
            p.over;
      }
      | inr q ↦ record {
        is_r = rw q.0 is_r;
        guard = c;
        copy = m;
        over =
            rw (at_same c (read_at (cell c) rd' r') cell) (omega (arith, q.0));
        last = rw (q.0, q.1) last;
      }
    ];
  }
    where
      m : S c
      m = i.home c t h

      g : GlobOk S B F
      g = i.glob

      o : CellOk B F c (cell c)
      o = i.cells c m

      is_r : B.kind t ≡ read_k
      is_r = o.reads t h

      -- a write is not under the read's timestamp
      other : (u : ℕ) → B.kind u ≡ write_k → u ≡ t → ⊥
      other u e q = read_k≢write_k (sym is_r ∙ ap B.kind (sym q) ∙ e)

      under : (u x : ℕ) (a : Mark) → (cell c).w u x a → rd' < u
      under u x a q = let z = other u (o.waits u x a q).is_w in let y = front u x a q in let w = (o.waits u x a q).over_r in
          elim pick [ inl e ↦ omega arith | inr e ↦ omega arith ]

      last : Last B t (cell c).val
      last = record {
        top = (cell c).wr;
        below = elim o.held [
          | inl e ↦ (let z : t ≡ 0 → ⊥ = λ q. idle≢read_k (sym g.zero_k ∙ ap B.kind (sym q) ∙ is_r) in omega (arith, e.0))
          | inr e ↦ (let z = other (cell c).wr (g.list_k (cell c).wr e.0) in omega arith)
        ];
        wrote = o.held;
        most = λ u p b. elim (o.live l u p) [ inl q ↦ q | inr q ↦ absurd (let z = front u q.0 q.1 q.2 in omega arith) ];
      }

      hit : CellOk B (answered F t (cell c).val) c (read_at (cell c) rd' r')
      hit = record {
        held = o.held;
        read_top = elim pick [ inl q ↦ inr (rw q is_r) | inr q ↦ rw q o.read_top ];
        waits = λ u x a q. let z = o.waits u x a q in record {
          is_w = z.is_w;
          vals = z.vals;
          now = z.now;
          over_w = z.over_w;
          over_r =
              under u x a q;
        };
        reads = λ u q. o.reads u (sub u q);
        done = o.done;
        dead = o.dead;
        live = o.live;
        gone = λ e. absurd (not-both (cell c).lost e l);
        empty = o.empty;
        promise = λ u a b e. elim (o.promise u a b e) [ inl q ↦ inl q | inr q ↦ absurd (not-both (cell c).lost q.0 l) ];
      }
