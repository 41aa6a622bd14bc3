-- The same facts under another reading of cells and of the list
use Prim.Native.Nat.{ℕ}
use mathlib.Core.Path.{◌≡◌, refl}
use mathlib.Core.Logic.{◌⊎◌, inl, inr}
use mathlib.Core.Bool.{Bool}
use native.Mathlib.Omega.{arith}
use Rattle.one_copy.proofs.Tests.{at, at_both}
use Rattle.one_copy.proofs.Abs.{Mark, cmt, abt, Cell, Book, Flow, CellOk, Inv}

pub record Same (k' k : Cell) : Type 0 where
  pub wr : k'.wr ≡ k.wr
  pub rd : k'.rd ≡ k.rd
  pub val : k'.val ≡ k.val
  pub lost : k'.lost ≡ k.lost
  pub to : (t v : ℕ) (m : Mark) → k'.w t v m → k.w t v m
  pub from : (t v : ℕ) (m : Mark) → k.w t v m → k'.w t v m
  pub r : (t : ℕ) → k'.r t → k.r t

-- a cell with the same facts is as good
same-cell : (B : Book) (F : Flow) (c : ℕ) (k : Cell) (w r d : ℕ) (l : Bool) (q : ℕ → ℕ → Mark → Type 0) (p : ℕ → Type 0)
    → w ≡ k.wr → r ≡ k.rd → d ≡ k.val → l ≡ k.lost
    → ((t v : ℕ) (m : Mark) → q t v m → k.w t v m) → ((t v : ℕ) (m : Mark) → k.w t v m → q t v m) → ((t : ℕ) → p t → k.r t)
    → CellOk B F c k → CellOk B F c (record { wr = w; rd = r; val = d; lost = l; w = q; r = p })
same-cell B F c k w r d l q p ew er ed el to from rs i = rw (ew, er, ed, el) (record {
  held = i.held;
  read_top = i.read_top;
  waits = λ t v m h. let o = i.waits t v m (to t v m h) in record {
    is_w = o.is_w;
    vals = o.vals;
    now = o.now;
    over_r = o.over_r;
    over_w = o.over_w;
  };
  reads = λ t h. i.reads t (rs t h);
  done = λ t v h. i.done t v (to t v cmt h);
  dead = λ t v h. i.dead t v (to t v abt h);
  live = λ e t h. elim (i.live e t h) [ inl x ↦ inl x | inr x ↦ inr (x.0, x.1, from t x.0 x.1 x.2, x.3) ];
  gone = i.gone;
  empty = λ e t v m h. i.empty e t v m (to t v m h);
  promise = λ t a b e. elim (i.promise t a b e) [ inl x ↦ inl (x.0, x.1, from t x.0 x.1 x.2, x.3) | inr x ↦ inr x ];
})

-- other cells with the same facts
pub recell : (S : ℕ → Type 0) (B : Book) (F : Flow) (cell cell' : ℕ → Cell) → Inv S B F cell → ((c : ℕ) → S c → Same (cell' c) (cell c))
    → ((c t : ℕ) → (cell' c).r t → S c) → Inv S B F cell'
recell S B F cell cell' i s hm = record {
  glob = i.glob;
  home = hm;
  cells = λ c m. let e = s c m in let k = cell' c in same-cell B F c (cell c) k.wr k.rd k.val k.lost k.w k.r e.wr
      e.rd e.val e.lost e.to e.from e.r (i.cells c m);
  seen = λ t x h. let o = i.seen t x h in record {
    is_r = o.is_r;
    guard = o.guard;
    copy = o.copy;
    last = o.last;
    over =
        (let z = (s o.guard o.copy).rd in let y = o.over in omega arith);
  };
}

-- another list with the same timestamps
pub relist : (S : ℕ → Type 0) (B : Book) (F : Flow) (cell : ℕ → Cell) (L' : ℕ → Type 0) → Inv S B F cell → ((t : ℕ) → L' t → B.L t)
    → ((t : ℕ) → B.L t → L' t)
    → Inv S (record { era = B.era; kind = B.kind; value = B.value; ae = B.ae; L = L'; Void = B.Void }) F cell
relist S B F cell L' i to from = let g = i.glob in let more : (t : ℕ) → B.L t ⊎ B.Void t → L' t
    ⊎ B.Void t = λ t. elim [ inl p ↦ inl (from t p) | inr p ↦ inr p ] in record {
      home = i.home;
      glob = record {
        zero_k = g.zero_k;
        past = g.past;
        ack_k = g.ack_k;
        abt_k = g.abt_k;
        rdm_k = g.rdm_k;
        cur_k = g.cur_k;
        act_cur = g.act_cur;
        pre_k = λ c u e v h. let p = g.pre_k c u e v h in record { is_w = p.is_w; vals = p.vals; known = p.known };
        list_k = λ t h. g.list_k t (to t h);
        own = λ t h p. g.own t h (to t p);
        dead = λ t h. ((g.dead t h).0, λ p. (g.dead t h).1 (to t p));
        told = λ t h. more t (g.told t h);
        old = λ t a o all. more t (g.old t a o all);
        stale = g.stale;
      };
      cells = λ c m. let o = i.cells c m in record {
        held = elim o.held [ inl p ↦ inl p | inr p ↦ inr (from (cell c).wr p.0, p.1) ];
        read_top = o.read_top;
        reads = o.reads;
        empty = o.empty;
        promise = o.promise;
        waits = λ u x b h. let z = o.waits u x b h in record {
          is_w = z.is_w;
          vals = z.vals;
          now = z.now;
          over_w = z.over_w;
          over_r =
              z.over_r;
        };
        done = λ u x h. from u (o.done u x h);
        dead = λ u x h. ((o.dead u x h).0, λ p. (o.dead u x h).1 (to u p));
        live = λ l t p. o.live l t (to t p);
        gone = λ l t p. o.gone l t (to t p);
      };
      seen = λ t x h. let o = i.seen t x h in let p = o.last in record {
        is_r = o.is_r;
        guard = o.guard;
        copy = o.copy;
        over = o.over;
        last = record {
          top = p.top;
          below = p.below;
          wrote = elim p.wrote [
            | inl z ↦ inl z
            | inr z ↦
                inr (from p.top z.0, z.1)
          ];
          most = λ u q. p.most u (to u q);
        };
      };
    }

-- a cell is as itself
pub same_self : (k : Cell) → Same k k
same_self k = record { wr = refl; rd = refl; val = refl; lost = refl; r = λ u q. q; to = λ u x m q. q; from = λ u x m q. q }

-- one cell under another reading
pub recell-at : (S : ℕ → Type 0) (B : Book) (F : Flow) (cell : ℕ → Cell) (c : ℕ) (k k' : Cell) → Inv S B F (at c k cell) → Same k' k
    → Inv S B F (at c k' cell)
recell-at S B F cell c k k' i s =
    let both : (d : ℕ) → Same (at c k' cell d) (at c k cell d) = at_both Same c k' k cell s same_self in
    recell S B F (at c k cell) (at c k' cell) i (λ d _. both d) (λ d t q. i.home d t ((both d).r t q))
