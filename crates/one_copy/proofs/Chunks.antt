-- A chunk's part in block b moves
use Rattle.std.specs.Prelude.{Option}
use Prim.Native.Nat.{ℕ, ◌≤◌}
use mathlib.Core.Path.{◌≡◌, refl, sym, subst, ◌∙◌}
use mathlib.Core.Logic.{◌⊎◌, inl, inr}
use mathlib.Core.Bool.{Bool, true, false, false≢true}
use mathlib.Core.List.{List, [], ◌∷◌}
use native.Mathlib.Omega.{arith}
use Rattle.one_copy.specs.Types.{Timestamp, Epoch, Kind, Entry, State, Header, Message, Sort}
use Rattle.rules.specs.Chunks.{entry_of}
use Rattle.rules.specs.Kinds.{is_normal}
use Rattle.rules.specs.Messages.{headed, message_of}
use Rattle.rules.specs.Waiting.{insert, mark}
use Rattle.one_copy.proofs.Tests.{at, at_all, at_map}
use Rattle.one_copy.proofs.Abs.{Mark, cmt, abt, CellOk, Inv}
use Rattle.one_copy.proofs.Flows.{Sub, shrink, accept, acked, queued, pop_read, answered, read_at}
use Rattle.one_copy.proofs.Cells.{one_cell, requeue, was, mark_cmt, mark_abt, pop_cmt, pop_abt, fail}
use Rattle.one_copy.proofs.Refine.{Same, recell-at}
use Rattle.one_copy.proofs.Lists.{Any}
use Rattle.one_copy.proofs.Net.{Sent, OfRead, OfPre, OfCommit, OfAbort, OfValue, OfAck}
use Rattle.one_copy.proofs.View.{Hist, Part, Seat, IsW, IsR, cell_of, book, flow, NetLe, CInv}
use Rattle.one_copy.proofs.Queue.{insert-to, insert-from, mark_of, mark-cases}

-- another queue, the rest as it was
abbrev pub with_queue : Part → List Entry → Part
with_queue p q = record { mode = p.mode; lost = p.lost; val = p.val; rd = p.rd; wr = p.wr; queue = q }

-- value v and last write n
abbrev pub wrote : Part → (v n : ℕ) → List Entry → Part
wrote p v n q = record { mode = p.mode; lost = p.lost; val = v; rd = p.rd; wr = n; queue = q }

-- last read n
abbrev pub was_read : Part → (n : ℕ) → List Entry → Part
was_read p n q = record { mode = p.mode; lost = p.lost; val = p.val; rd = n; wr = p.wr; queue = q }

-- another state
abbrev pub in_mode : Part → State → Part
in_mode p m = record { mode = m; lost = p.lost; val = p.val; rd = p.rd; wr = p.wr; queue = p.queue }

-- failed: what persists
abbrev pub fallen : Part → Part
fallen p = record { mode = State.Failed; lost = true; val = p.val; rd = p.rd; wr = p.wr; queue = [] }

module _ (S : ℕ → Type 0) (b : ℕ) (h : Hist) (ep : ℕ) (hs : ℕ → Seat) (ps : ℕ → Part) (n : List (Option Message)) (i : CInv S b h ep hs ps n) where
  -- fewer messages are a smaller flow
  less : (n' : List (Option Message)) → NetLe b n' n → Sub (flow S b h hs n') (flow S b h hs n)
  less n' sub = record {
    cur = λ t z. z;
    act = λ t z. (z, (z.0, z.1));
    ack = λ t c. elim [ inl s ↦ inl (sub.ack t c s) | inr z ↦ inr z ];
    pre = sub.pre;
    rdm = sub.rdm;
    comm = sub.comm;
    abtm = sub.abtm;
    seen = λ t x. elim [ inl s ↦ inl (sub.value t x s) | inr z ↦ inr z ];
  }

  -- the globals' facts stay; the invariant is given
  pub put-part : (c : ℕ) (p : Part) (n' : List (Option Message)) → Inv S (book h ep) (flow S b h hs n') (at c (cell_of p) (λ d. cell_of (ps d)))
      → (is_normal p.mode ≡ true → p.lost ≡ false) → CInv S b h ep hs (at c p ps) n'
  put-part c p n' v ok = record {
    inv = subst (λ f. Inv S (book h ep) (flow S b h hs n') f) (sym (at_map cell_of c p ps)) v;
    vals = i.vals;
    drawn = i.drawn;
    stamps = i.stamps;
    mine = i.mine;
    known = i.known;
    sane = at_all (λ d x. is_normal x.mode ≡ true → x.lost ≡ false) c p ps ok (λ d _. i.sane d);
  }

  -- messages alone go
  pub net_only : (n' : List (Option Message)) → NetLe b n' n → CInv S b h ep hs ps n'
  net_only n' sub = record {
    inv = shrink S (book h ep) (flow S b h hs n) (λ d. cell_of (ps d)) i.inv (flow S b h hs n') (less n' sub);
    vals = i.vals;
    drawn = i.drawn;
    stamps = i.stamps;
    mine = i.mine;
    known = i.known;
    sane = i.sane;
  }

  -- one cell moves, and the net shrinks
  pub one-part : (c : ℕ) (p : Part) (n' : List (Option Message)) → NetLe b n' n → (S c → CellOk (book h ep) (flow S b h hs n) c (cell_of p))
      → (ps c).rd ≤ p.rd
      → ((t : ℕ) → (cell_of p).r t → S c) → (is_normal p.mode ≡ true → p.lost ≡ false) → CInv S b h ep hs (at c p ps) n'
  one-part c p n' sub ok up hm sane = put-part c p n' (shrink S (book h ep) (flow S b h hs n) (at c (cell_of p) (λ d. cell_of (ps d)))
      (one_cell S (book h ep) (flow S b h hs n) (λ d. cell_of (ps d)) c (cell_of p) i.inv ok up hm) (flow S b h hs n') (less n' sub)) sane

  -- modes change and nothing else
  pub mode-only : (c : ℕ) (m : State) (n' : List (Option Message)) → NetLe b n' n → (is_normal m ≡ true → (ps c).lost ≡ false)
      → CInv S b h ep hs (at c (in_mode (ps c) m) ps) n'
  mode-only c m n' sub ok = one-part c (in_mode (ps c) m) n' sub (i.inv.cells c) (omega arith) (i.inv.home c) ok

  -- the chunk fails
  pub falls : (c : ℕ) (n' : List (Option Message)) → NetLe b n' n → CInv S b h ep hs (at c (fallen (ps c)) ps) n'
  falls c n' sub = one-part c (fallen (ps c)) n' sub (λ m. fail S (book h ep) (flow S b h hs n) c (cell_of (ps c)) i.inv.glob
      (i.inv.cells c m)) (omega arith) (λ t z. absurd z) (λ e. absurd (false≢true e))

  -- a normal chunk
  module _ (c : ℕ) (nm : is_normal (ps c).mode ≡ true) where
    -- it is not lost
    l : (ps c).lost ≡ false
    l = i.sane c nm

    -- a read arrives and waits
    pub takes-read : (hd : Header) (k : Epoch) (n' : List (Option Message)) → NetLe b n' n → Sent n (OfRead b c hd.timestamp.0)
        → CInv S b h ep hs (at c (with_queue (ps c) (insert (entry_of hd k Kind.Read) (ps c).queue)) ps) n'
    takes-read hd k n' sub msg = one-part c (with_queue (ps c) (insert e (ps c).queue)) n' sub
        (λ m. let o = i.inv.cells c m in requeue S (book h ep) (flow S b h hs n) c (cell_of (ps c)) i.inv.glob o _ _
        (λ u x a q. was S (book h ep) (flow S b h hs n) c (cell_of (ps c)) i.inv.glob o u x a l
        (elim (insert-to (IsW u x a) e (ps c).queue q) [ inl z ↦ z | inr z ↦ absurd z.1 ]))
        (λ u q. inl (q.0, q.1, insert-from (IsW u q.0 q.1) e (ps c).queue (inl q.2), q.3))
        (λ u q. elim (insert-to (IsR u) e (ps c).queue q) [
          | inl z ↦ o.reads u z
          | inr z ↦
              rw (← z.0) (i.inv.glob.rdm_k c hd.timestamp.0 msg).0
        ]))
        (omega arith)
        (λ u q. elim (insert-to (IsR u) e (ps c).queue q) [
          | inl z ↦ i.inv.home c u z
          | inr z ↦
              (i.inv.glob.rdm_k c hd.timestamp.0 msg).1
        ])
        (λ _. l)
      where
        e : Entry
        e = entry_of hd k Kind.Read

    -- a prewrite of the chunk's epoch arrives, waits and is answered
    pub takes_write : (hd : Header) (k : Epoch) (v : ℕ) (n' : List (Option Message)) → hd.chunk ≡ c
        → ((P : Message → Type 0) → Sent n' P → Sent n P ⊎ P (message_of hd Sort.PrewriteReply)) → Sent n (OfPre b c hd.timestamp.0 k.0 v)
        → k.0 ≡ ep → (ps c).wr ≤ hd.timestamp.0 → (ps c).rd ≤ hd.timestamp.0
        → CInv S b h ep hs (at c (with_queue (ps c) (insert (entry_of hd k (Kind.Undecided v)) (ps c).queue)) ps) n'
    takes_write hd k v n' hc adds msg now ow or = put-part c (with_queue (ps c) (insert e (ps c).queue)) n'
        (recell-at S (book h ep) (flow S b h hs n') (λ d. cell_of (ps d)) c (queued (cell_of (ps c)) t v)
        (cell_of (with_queue (ps c) (insert e (ps c).queue)))
        (shrink S (book h ep) (acked (flow S b h hs n) t c) (at c (queued (cell_of (ps c)) t v) (λ d. cell_of (ps d)))
        (accept S (book h ep) (flow S b h hs n) (λ d. cell_of (ps d)) i.inv c t k.0 v msg now l ow or)
        (flow S b h hs n') (record {
          cur = λ u z. z;
          act = λ u z. (z, (z.0, z.1));
          ack = λ u d. elim [
            | inl q ↦ elim (adds (OfAck b u d) q) [
              | inl r ↦ inl (inl r)
              | inr r ↦
                  inr (sym r.2, sym r.3 ∙ hc)
            ]
            | inr z ↦ inl (inr z)
          ];
          pre = λ d u x y q. elim (adds (OfPre b d u x y) q) [ inl r ↦ r | inr r ↦ absurd r.0 ];
          rdm = λ d u q. elim (adds (OfRead b d u) q) [ inl r ↦ r | inr r ↦ absurd r.0 ];
          comm = λ u q. elim (adds (OfCommit b u) q) [ inl r ↦ r | inr r ↦ absurd r.0 ];
          abtm = λ u q. elim (adds (OfAbort b u) q) [ inl r ↦ r | inr r ↦ absurd r.0 ];
          seen = λ u x. elim [ inl q ↦ elim (adds (OfValue b u x) q) [ inl r ↦ inl r | inr r ↦ absurd r.0 ] | inr z ↦ inr z ];
        }))
        here)
        (λ _. l)
      where
        e : Entry
        e = entry_of hd k (Kind.Undecided v)

        t : ℕ
        t = hd.timestamp.0

        rs : (u : ℕ) → Any (IsR u) (insert e (ps c).queue) → Any (IsR u) (ps c).queue
        rs u q = elim (insert-to (IsR u) e (ps c).queue q) [ inl z ↦ z | inr z ↦ absurd z.1 ]

        here : Same (cell_of (with_queue (ps c) (insert e (ps c).queue))) (queued (cell_of (ps c)) t v)
        here = record {
          wr = refl;
          rd = refl;
          val = refl;
          lost = refl;
          r = rs;
          to = λ u x m q. elim (insert-to (IsW u x m) e (ps c).queue q) [
            | inl z ↦ inl z
            | inr z ↦
                inr (sym z.0, sym z.1.0, z.1.1)
          ];
          from = λ u x m q. insert-from (IsW u x m) e (ps c).queue
              (elim q [ inl z ↦ inl z | inr z ↦ inr (sym z.0, (sym z.1, z.2)) ]);
        }

    -- a commit or an abort arrives
    pub marks : (commit : Bool) (t : Timestamp) (n' : List (Option Message)) → NetLe b n' n → ((mark_of commit ≡ cmt) × Sent n (OfCommit b t.0))
        ⊎ ((mark_of commit ≡ abt) × Sent n (OfAbort b t.0))
        → CInv S b h ep hs (at c (with_queue (ps c) (mark commit t (ps c).queue)) ps) n'
    marks commit t n' sub msg = elim (mark-cases commit t (ps c).queue) [
      | inl e ↦ one-part c (with_queue (ps c) (mark commit t (ps c).queue)) n' sub (rw e (i.inv.cells c)) (omega arith)
          (rw e (i.inv.home c)) (λ _. l)
      | inr k ↦ one-part c (with_queue (ps c) (mark commit t (ps c).queue)) n' sub
          (λ m. elim msg [
            | inl p ↦ mark_cmt S (book h ep) (flow S b h hs n) c (cell_of (ps c)) i.inv.glob (i.inv.cells c m) t.0 k.v _ _
                k.r l p.1 k.was
                (λ u x a q. elim (k.to u x a q) [ inl z ↦ inl z | inr z ↦ inr (z.0, z.1, z.2 ∙ p.0) ]) k.from
                (subst (λ a. Any (IsW t.0 k.v a) (mark commit t (ps c).queue)) p.0 k.new)
            | inr p ↦ mark_abt S (book h ep) (flow S b h hs n) c (cell_of (ps c)) i.inv.glob (i.inv.cells c m) t.0 k.v _ _
                k.r l p.1 k.was
                (λ u x a q. elim (k.to u x a q) [ inl z ↦ inl z | inr z ↦ inr (z.0, z.1, z.2 ∙ p.0) ]) k.from
          ])
          (omega arith) (λ u q. i.inv.home c u (k.r u q)) (λ _. l)
    ]

    -- the head leaves
    module _ (e : Entry) (q : List Entry) (qe : (ps c).queue ≡ e ∷ q) (low : (P : Entry → Type 0) → Any P (e ∷ q) → (x : Entry) × P x
        × (e.timestamp.0 ≤ x.timestamp.0)) where
      -- nothing that waits comes before the head
      front : (u x : ℕ) (a : Mark) → IsW u x a e ⊎ Any (IsW u x a) q → e.timestamp.0 ≤ u
      front u x a z = let y = low (IsW u x a) z in omega (arith, y.2, y.1.0)

      -- what waits is the head or behind it
      inq : (P : Entry → Type 0) → Any P (ps c).queue → P e ⊎ Any P q
      inq P z = rw qe at z

      outq : (P : Entry → Type 0) → P e ⊎ Any P q → Any P (ps c).queue
      outq P z = rw qe z

      -- a committed write is carried out; m is the later of the last write and it
      pub runs_cmt : (v m : ℕ) (n' : List (Option Message)) → NetLe b n' n → e.kind ≡ Kind.Committed v
          → ((ps c).wr ≤ e.timestamp.0 → m ≡ e.timestamp.0) → CInv S b h ep hs (at c (wrote (ps c) v m q) ps) n'
      runs_cmt v m n' sub w top = one-part c (wrote (ps c) v m q) n' sub
          (λ z. let o = i.inv.cells c z in
          rw (top (o.waits e.timestamp.0 v cmt here).over_w) (pop_cmt S (book h ep) (flow S b h hs n) c (cell_of (ps c))
          i.inv.glob o e.timestamp.0 v (λ u x a. Any (IsW u x a) q) (λ u. Any (IsR u) q) here
          (λ u x a z. front u x a (inq (IsW u x a) z))
          (λ u x a z. outq (IsW u x a) (inr z))
          (λ u x a z. elim (inq (IsW u x a) z) [ inl y ↦ inr (sym y.0) | inr y ↦ inl y ]) (λ u z. outq (IsR u) (inr z))))
          (omega arith) (λ u z. i.inv.home c u (outq (IsR u) (inr z))) (λ _. l)
        where
          here : Any (IsW e.timestamp.0 v cmt) (ps c).queue
          here = outq (IsW e.timestamp.0 v cmt) (inl (refl, rw w (refl, refl)))

      -- an aborted write or a refused read leaves
      pub runs_off : (n' : List (Option Message)) → NetLe b n' n → ((u x : ℕ) (a : Mark) → IsW u x a e → a ≡ abt)
          → CInv S b h ep hs (at c (with_queue (ps c) q) ps) n'
      runs_off n' sub only = one-part c (with_queue (ps c) q) n' sub
          (λ m. pop_abt S (book h ep) (flow S b h hs n) c (cell_of (ps c)) i.inv.glob (i.inv.cells c m)
          (λ u x a. Any (IsW u x a) q) (λ u. Any (IsR u) q) l
          (λ u x a z. outq (IsW u x a) (inr z))
          (λ u x a z. elim (inq (IsW u x a) z) [ inl y ↦ inr (only u x a y) | inr y ↦ inl y ])
          (λ u z. outq (IsR u) (inr z)))
          (omega arith) (λ u z. i.inv.home c u (outq (IsR u) (inr z))) (λ _. l)

      -- a read is answered, and m is the later of the last read and it
      pub runs-read : (m : ℕ) (n' : List (Option Message)) (j : ℕ) → ((P : Message → Type 0) → Sent n' P → Sent n P
          ⊎ P (message_of (headed j c b e.timestamp) (Sort.ReadReply (ps c).val))) → e.kind ≡ Kind.Read → (ps c).wr ≤ e.timestamp.0
          → ((m ≡ e.timestamp.0) × ((ps c).rd ≤ m)) ⊎ ((m ≡ (ps c).rd) × (e.timestamp.0 ≤ m))
          → CInv S b h ep hs (at c (was_read (ps c) m q) ps) n'
      runs-read m n' j adds w ow pick = put-part c (was_read (ps c) m q) n'
          (recell-at S (book h ep) (flow S b h hs n') (λ d. cell_of (ps d)) c (read_at (cell_of (ps c)) m (λ u. Any (IsR u) q))
          (cell_of (was_read (ps c) m q))
          (shrink S (book h ep) (answered (flow S b h hs n) e.timestamp.0 (ps c).val)
          (at c (read_at (cell_of (ps c)) m (λ u. Any (IsR u) q)) (λ d. cell_of (ps d)))
          (pop_read S (book h ep) (flow S b h hs n) (λ d. cell_of (ps d)) i.inv c e.timestamp.0 m (λ u. Any (IsR u) q) l
          (outq (IsR e.timestamp.0) (inl (refl, rw w tt))) ow
          (λ u x a z. front u x a (inq (IsW u x a) z)) (λ u z. outq (IsR u) (inr z))
          (elim pick [ inl z ↦ omega (arith, z.0) | inr z ↦ z.1 ]) (elim pick [ inl z ↦ z.1 | inr z ↦ omega (arith, z.0) ])
          (elim pick [ inl z ↦ inl z.0 | inr z ↦ inr z.0 ]))
          (flow S b h hs n') (record {
            cur = λ u z. z;
            act = λ u z. (z, (z.0, z.1));
            ack = λ u d. elim [ inl q ↦ elim (adds (OfAck b u d) q) [ inl r ↦ inl r | inr r ↦ absurd r.0 ] | inr z ↦ inr z ];
            pre = λ d u x y q. elim (adds (OfPre b d u x y) q) [ inl r ↦ r | inr r ↦ absurd r.0 ];
            rdm = λ d u q. elim (adds (OfRead b d u) q) [ inl r ↦ r | inr r ↦ absurd r.0 ];
            comm = λ u q. elim (adds (OfCommit b u) q) [ inl r ↦ r | inr r ↦ absurd r.0 ];
            abtm = λ u q. elim (adds (OfAbort b u) q) [ inl r ↦ r | inr r ↦ absurd r.0 ];
            seen = λ u x. elim [
              | inl q ↦ elim (adds (OfValue b u x) q) [
                | inl r ↦ inl (inl r)
                | inr r ↦
                    inr (sym r.2, sym r.0)
              ]
              | inr z ↦ inl (inr z)
            ];
          }))
          (record {
            wr = refl;
            rd = refl;
            val = refl;
            lost = refl;
            r = λ u z. z;
            to = λ u x a z. outq (IsW u x a) (inr z);
            from = λ u x a z. elim (inq (IsW u x a) z) [ inl y ↦ absurd (rw w at y.1) | inr y ↦ y ];
          }))
          (λ _. l)
