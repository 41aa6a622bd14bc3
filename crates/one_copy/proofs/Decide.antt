-- Moves of the history: a start, a host's commit, a host's abort
use Prim.Native.Nat.{ℕ, ◌≤◌}
use mathlib.Core.Path.{◌≡◌, sym, ◌∙◌, ap}
use mathlib.Core.Logic.{◌⊎◌, inl, inr}
use native.Mathlib.Omega.{arith}
use Rattle.one_copy.proofs.Tests.{at, at_same, at_other, eq_or_ne, le_or_lt, not-both}
use Rattle.one_copy.proofs.Abs.{Began, abt, idle, read_k, write_k, Cell, Book, Flow, Promise, Wrote, read_k≢write_k, idle≢read_k, idle≢write_k, CellOk, GlobOk, Seen, Inv}
use Rattle.one_copy.proofs.Flows.{reflow}

-- t is listed
abbrev pub listed : Book → ℕ → Book
listed B t = record { era = B.era; kind = B.kind; value = B.value; ae = B.ae; L = λ u. B.L u ⊎ (u ≡ t); Void = B.Void }

-- t is its host's no more, and commits are in flight
abbrev pub committed : Flow → ℕ → Flow
committed F t = record {
  cur = λ u. F.cur u × (u ≡ t → ⊥);
  act = λ u. F.act u × (u ≡ t → ⊥);
  ack = F.ack;
  pre = F.pre;
  rdm = F.rdm;
  comm = λ u. F.comm u ⊎ (u ≡ t);
  abtm = F.abtm;
  seen = F.seen;
}

-- t is its host's no more, and aborts are in flight
abbrev pub aborted : Flow → ℕ → Flow
aborted F t = record {
  cur = λ u. F.cur u × (u ≡ t → ⊥);
  act = F.act;
  ack = F.ack;
  pre = F.pre;
  rdm = F.rdm;
  comm = F.comm;
  abtm =
      λ u. F.abtm u ⊎ (u ≡ t);
  seen = F.seen;
}

-- K is begun under t, with value v in era e
abbrev pub begun : Book → ℕ → Began → ℕ → ℕ → Book
begun B t K v e = record { era = B.era; kind = at t K B.kind; value = at t v B.value; ae = at t e B.ae; L = B.L; Void = B.Void }

-- a write begins: its host is at work, prewrites are in flight
abbrev pub writing : Flow → ℕ → ℕ → ℕ → Flow
writing F t v e = record {
  cur = λ u. F.cur u ⊎ (u ≡ t);
  act = λ u. F.act u ⊎ (u ≡ t);
  ack = F.ack;
  pre =
      λ c u e' x. F.pre c u e' x ⊎ ((u ≡ t) × (e' ≡ e) × (x ≡ v));
  rdm = F.rdm;
  comm = F.comm;
  abtm = F.abtm;
  seen = F.seen;
}

-- a read begins: it is in flight to chunk c
abbrev pub reading : Flow → ℕ → ℕ → Flow
reading F t c = record {
  cur = F.cur;
  act = F.act;
  ack = F.ack;
  pre = F.pre;
  rdm = λ d u. F.rdm d u ⊎ ((u ≡ t) × (d ≡ c));
  comm =
      F.comm;
  abtm = F.abtm;
  seen = F.seen;
}

module _ (S : ℕ → Type 0) (B : Book) (F : Flow) (cell : ℕ → Cell) (i : Inv S B F cell) where
  -- what all answers to a write amount to
  pub agreed : (t : ℕ) → F.act t → ((c : ℕ) → S c → F.ack t c) → (B.L t ⊎ B.Void t) ⊎ ((c : ℕ) → S c → Promise (cell c) t)
  agreed t a all = let g = i.glob in elim (le_or_lt B.era (B.ae t)) [
    | inl q ↦ inr (λ c m. (i.cells c m).promise t a (all c m) (let z = g.past t (g.cur_k t (g.act_cur t a)) in omega arith))
    | inr q ↦ inl (g.old t a q all)
  ]

  -- a host commits a write that all copies have answered. (One that a salvage has left out is not listed by it: that would be a move
  -- of its own)
  pub commit : (t : ℕ) → (B.Void t → ⊥) → F.act t → ((c : ℕ) → S c → F.ack t c) → Inv S (listed B t) (committed F t) cell
  commit t nv a all = record {
    home = i.home;
    glob = record {
      zero_k = g.zero_k;
      past = g.past;
      ack_k = g.ack_k;
      abt_k = g.abt_k;
      rdm_k = g.rdm_k;
      pre_k = λ c u e v h. let p = g.pre_k c u e v h in record { is_w = p.is_w; vals = p.vals; known = p.known };
      list_k = λ u. elim [ inl p ↦ g.list_k u p | inr q ↦ rw q (g.cur_k t (g.act_cur t a)) ];
      cur_k = λ u h. g.cur_k u h.0;
      act_cur = λ u h. (g.act_cur u h.0, h.1);
      own = λ u h. elim [ inl p ↦ g.own u h.0 p | inr q ↦ absurd (h.1 q) ];
      dead = λ u h. (
        λ c. (g.dead u h).0 c.0,
        elim [
          | inl p ↦ (g.dead u h).1 p
          | inr q ↦
              absurd ((g.dead u h).0 (rw q (g.act_cur t a)))
        ],
      );
      told = λ u. elim [ inl p ↦ more u (g.told u p) | inr q ↦ inl (inr q) ];
      old = λ u b o r. more u (g.old u b.0 o r);
      stale = g.stale;
    };
    cells = λ c m. let o = i.cells c m in record {
      held = elim o.held [ inl p ↦ inl p | inr p ↦ inr (inl p.0, p.1) ];
      read_top = o.read_top;
      waits = λ u x b h. let z = o.waits u x b h in record {
        is_w = z.is_w;
        vals = z.vals;
        now = z.now;
        over_w = z.over_w;
        over_r =
            z.over_r;
      };
      reads = o.reads;
      done = λ u x h. inl (o.done u x h);
      dead = λ u x h. (λ b. (o.dead u x h).0 b.0, elim [ inl p ↦ (o.dead u x h).1 p | inr q ↦ (o.dead u x h).0 (rw q a) ]);
      live = λ l u. elim [
        | inl p ↦ o.live l u p
        | inr q ↦
            rw q (elim ok [
              | inl p ↦ o.live l t p
              | inr p ↦ elim (p c m) [
                | inl z ↦ inr z
                | inr z ↦
                    absurd (not-both (cell c).lost z.0 l)
              ]
            ])
      ];
      gone = λ l u. elim [
        | inl p ↦ o.gone l u p
        | inr q ↦
            rw q (elim ok [
              | inl p ↦ o.gone l t p
              | inr p ↦ elim (p c m) [
                | inl z ↦ absurd (o.empty l t z.0 z.1 z.2)
                | inr z ↦
                    inr z.1
              ]
            ])
      ];
      empty = o.empty;
      promise = λ u b. o.promise u b.0;
    };
    seen = λ r x h. let o = i.seen r x h in let p = o.last in record {
      is_r = o.is_r;
      guard = o.guard;
      copy = o.copy;
      over = o.over;
      last = record {
        top = p.top;
        below = p.below;
        wrote = elim p.wrote [ inl z ↦ inl z | inr z ↦ inr (inl z.0, z.1) ];
        most = λ u. elim [
          | inl z ↦ p.most u z
          | inr q ↦ λ b. elim ok [
            | inl z ↦ p.most u (rw q z) b
            | inr z ↦ absurd (elim (z o.guard o.copy) [
              | inl y ↦ (let f = ((i.cells o.guard o.copy).waits t y.0 y.1 y.2).over_r in let v = o.over in omega arith)
              | inr y ↦ (let v = o.over in omega (arith, y.1))
            ])
          ]
        ];
      };
    };
  }
    where
      g : GlobOk S B F
      g = i.glob

      more : (u : ℕ) → B.L u ⊎ B.Void u → (B.L u ⊎ (u ≡ t)) ⊎ B.Void u
      more u = elim [ inl p ↦ inl (inl p) | inr p ↦ inr p ]

      ok : B.L t ⊎ ((c : ℕ) → S c → Promise (cell c) t)
      ok = elim (agreed t a all) [ inl p ↦ elim p [ inl q ↦ inl q | inr q ↦ absurd (nv q) ] | inr p ↦ inr p ]

  -- a host gives a write up
  pub abort : (t : ℕ) → F.cur t → (F.act t → ⊥) → Inv S B (aborted F t) cell
  abort t a n = let g = i.glob in record {
    glob = record {
      zero_k = g.zero_k;
      past = g.past;
      ack_k = g.ack_k;
      rdm_k = g.rdm_k;
      pre_k = g.pre_k;
      list_k = g.list_k;
      told = g.told;
      old = g.old;
      stale = g.stale;
      abt_k = λ u. elim [ inl p ↦ g.abt_k u p | inr q ↦ rw q (g.cur_k t a) ];
      cur_k = λ u h. g.cur_k u h.0;
      act_cur = λ u h. (g.act_cur u h, λ q. n (rw q at h));
      own = λ u h. g.own u h.0;
      dead = λ u. elim [ inl p ↦ (λ c. (g.dead u p).0 c.0, (g.dead u p).1) | inr q ↦ (λ c. c.1 q, rw q (g.own t a)) ];
    };
    cells = λ c m. reflow B F (aborted F t) c (cell c) (i.cells c m) (λ u b. b) (i.cells c m).promise;
    seen = i.seen;
    home = i.home;
  }

  -- a timestamp is drawn that was never drawn
  module _ (t : ℕ) (K : Began) (v e : ℕ) (F' : Flow) (f : B.kind t ≡ idle) (nv : B.Void t → ⊥) (pos : t ≡ 0 → ⊥)
      (acts : (u : ℕ) → (u ≡ t → ⊥) → F'.act u → F.act u) (acks : (u c : ℕ) → F'.ack u c → F.ack u c) where
    -- no attempt has the new timestamp
    is_w≢ : (u : ℕ) → B.kind u ≡ write_k → u ≡ t → ⊥
    is_w≢ u h q = idle≢write_k (sym f ∙ ap B.kind (sym q) ∙ h)

    is_r≢ : (u : ℕ) → B.kind u ≡ read_k → u ≡ t → ⊥
    is_r≢ u h q = idle≢read_k (sym f ∙ ap B.kind (sym q) ∙ h)

    -- what was begun before stays
    same_k : (u : ℕ) → (u ≡ t → ⊥) → (begun B t K v e).kind u ≡ B.kind u
    same_k u n = at_other t K B.kind u n

    same_v : (u : ℕ) → (u ≡ t → ⊥) → (begun B t K v e).value u ≡ B.value u
    same_v u n = at_other t v B.value u n

    same_e : (u : ℕ) → (u ≡ t → ⊥) → (begun B t K v e).ae u ≡ B.ae u
    same_e u n = at_other t e B.ae u n

    -- and so do its kind and what was written
    keep_w : (u : ℕ) → B.kind u ≡ write_k → (begun B t K v e).kind u ≡ write_k
    keep_w u h = same_k u (is_w≢ u h) ∙ h

    keep_r : (u : ℕ) → B.kind u ≡ read_k → (begun B t K v e).kind u ≡ read_k
    keep_r u h = same_k u (is_r≢ u h) ∙ h

    keep_wrote : (u x : ℕ) → Wrote B u x → Wrote (begun B t K v e) u x
    keep_wrote u x = elim [ inl p ↦ inl p | inr p ↦ inr (p.0, same_v u (is_w≢ u (i.glob.list_k u p.0)) ∙ p.1) ]

    -- no cell changes
    pub begin_cells : (c : ℕ) → S c → CellOk (begun B t K v e) F' c (cell c)
    begin_cells c m = let o = i.cells c m in let g = i.glob in record {
      held = keep_wrote (cell c).wr (cell c).val o.held;
      read_top = elim o.read_top [ inl p ↦ inl p | inr p ↦ inr (keep_r (cell c).rd p) ];
      waits = λ u x b h. let z = o.waits u x b h in let n = is_w≢ u z.is_w in
          record { is_w = keep_w u z.is_w; vals = same_v u n ∙ z.vals; now = same_e u n ∙ z.now; over_w = z.over_w; over_r = z.over_r };
      reads = λ u h. keep_r u (o.reads u h);
      done = o.done;
      dead = λ u x h. (λ a. (o.dead u x h).0 (acts u (is_w≢ u (o.waits u x abt h).is_w) a), (o.dead u x h).1);
      live = o.live;
      gone = o.gone;
      empty = o.empty;
      promise = λ u a b q. let n = is_w≢ u (g.ack_k u c (acks u c b)) in o.promise u (acts u n a) (acks u c b) (sym (same_e u n) ∙ q);
    }

    -- no answer changes
    pub begin_seen : (r x : ℕ) → F.seen r x → Seen S (begun B t K v e) cell r x
    begin_seen r x h = let o = i.seen r x h in let p = o.last in record {
      is_r = keep_r r o.is_r;
      guard = o.guard;
      copy = o.copy;
      over = o.over;
      last = record { top = p.top; below = p.below; wrote = keep_wrote p.top x p.wrote; most = p.most };
    }

    -- the parts of the globals that a read's start and a write's start share
    pub begin_glob : (begun B t K v e).kind t ≡ K → (K ≡ write_k → e ≤ B.era) → GlobOk S (begun B t K v e) F
    begin_glob hit le = let g = i.glob in record {
      zero_k = same_k 0 (λ q. pos (sym q)) ∙ g.zero_k;
      list_k = λ u h. keep_w u (g.list_k u h);
      cur_k = λ u h. keep_w u (g.cur_k u h);
      act_cur = g.act_cur;
      ack_k = λ u c h. keep_w u (g.ack_k u c h);
      abt_k = λ u h. keep_w u (g.abt_k u h);
      pre_k = λ c u e' x h. let p = g.pre_k c u e' x h in let n = is_w≢ u p.is_w in
          record { is_w = keep_w u p.is_w; vals = same_v u n ∙ p.vals; known = same_e u n ∙ p.known };
      rdm_k = λ c u h. (keep_r u (g.rdm_k c u h).0, (g.rdm_k c u h).1);
      past = λ u h. elim (eq_or_ne u t) [
        | inl q ↦ (let z = le (sym hit ∙ ap (begun B t K v e).kind (sym q) ∙ h) in rw (q, at_same t e B.ae) z)
        | inr n ↦ rw (same_e u n) (g.past u (sym (same_k u n) ∙ h))
      ];
      own = λ u h p. rw (same_e u (is_w≢ u (g.cur_k u h))) (g.own u h p);
      dead = λ u h. ((g.dead u h).0, λ p. rw (same_e u (is_w≢ u (g.abt_k u h))) ((g.dead u h).1 p));
      told = g.told;
      old = λ u a q all. g.old u a (rw (same_e u (is_w≢ u (g.cur_k u (g.act_cur u a)))) at q) all;
      stale = λ u z. elim (eq_or_ne u t) [ inl q ↦ absurd (nv (rw q at z)) | inr n ↦ rw (same_e u n) (g.stale u z) ];
    }

  -- a read starts at a copy
  pub start_read : (t c v e : ℕ) → S c → B.kind t ≡ idle → (B.Void t → ⊥) → (t ≡ 0 → ⊥) → Inv S (begun B t read_k v e) (reading F t c) cell
  start_read t c v e m f nv pos = let g = begin_glob t read_k v e F f nv pos (λ u _ a. a) (λ u c a. a) (at_same t read_k B.kind)
      (λ q. absurd (read_k≢write_k q)) in record {
        glob = record {
          zero_k = g.zero_k;
          list_k = g.list_k;
          past = g.past;
          cur_k = g.cur_k;
          act_cur = g.act_cur;
          ack_k = g.ack_k;
          abt_k = g.abt_k;
          pre_k = g.pre_k;
          own = g.own;
          dead = g.dead;
          told = g.told;
          old = g.old;
          stale = g.stale;
          rdm_k = λ d u. elim [ inl h ↦ g.rdm_k d u h | inr q ↦ (rw q.0 (at_same t read_k B.kind), rw q.1 m) ];
        };
        home = i.home;
        cells = begin_cells t read_k v e (reading F t c) f nv pos (λ u _ a. a) (λ u c a. a);
        seen = begin_seen t read_k v e F f nv pos (λ u _ a. a) (λ u c a. a);
      }

  -- a write starts
  pub start_write : (t v e : ℕ) → B.kind t ≡ idle → (B.Void t → ⊥) → (t ≡ 0 → ⊥) → e ≤ B.era → (s : ℕ) → S s
      → Inv S (begun B t write_k v e) (writing F t v e) cell
  start_write t v e f nv pos le s sm =
      let g = begin_glob t write_k v e F f nv pos (λ u _ a. a) (λ u c a. a) (at_same t write_k B.kind) (λ _. le) in
      let drop : (u : ℕ) → (u ≡ t → ⊥) → F.act u ⊎ (u ≡ t) → F.act u = λ u n. elim [ inl a ↦ a | inr q ↦ absurd (n q) ] in
      let no_w : B.kind t ≡ write_k → ⊥ = λ q. idle≢write_k (sym f ∙ q) in
      record {
        glob = record {
          zero_k = g.zero_k;
          list_k = g.list_k;
          past = g.past;
          ack_k = g.ack_k;
          abt_k = g.abt_k;
          rdm_k = g.rdm_k;
          told = g.told;
          stale = g.stale;
          cur_k = λ u. elim [ inl h ↦ g.cur_k u h | inr q ↦ rw q (at_same t write_k B.kind) ];
          act_cur = λ u. elim [ inl h ↦ inl (g.act_cur u h) | inr q ↦ inr q ];
          pre_k = λ c u e' x. elim [
            | inl h ↦ g.pre_k c u e' x h
            | inr q ↦ record {
              is_w = rw q.0 (at_same t write_k B.kind);
              vals = rw (q.0, q.2) (at_same t v B.value);
              known = rw (q.0, q.1) (at_same t e B.ae);
            }
          ];
          own = λ u. elim [ inl h ↦ g.own u h | inr q ↦ λ p. absurd (no_w (i.glob.list_k t (rw q at p))) ];
          dead = λ u h. (elim [ inl a ↦ (g.dead u h).0 a | inr q ↦ no_w (rw q at (i.glob.abt_k u h)) ], (g.dead u h).1);
          old = λ u. elim [ inl a ↦ g.old u a | inr q ↦ λ _ all. absurd (no_w (rw q at (i.glob.ack_k u s (all s sm)))) ];
        };
        home = i.home;
        cells = begin_cells t write_k v e (writing F t v e) f nv pos drop (λ u c a. a);
        seen = begin_seen t write_k v e F f nv pos (λ u _ a. a) (λ u c a. a);
      }
