-- A host starts and finishes an attempt on block b
use Rattle.std.specs.Prelude.{Option}
use Prim.Native.Nat.{ℕ, ◌≤◌, ◌<◌}
use mathlib.Core.Path.{◌≡◌, refl, sym, ◌∙◌, ap}
use mathlib.Core.Logic.{◌⊎◌, inl, inr}
use mathlib.Core.Bool.{true, false}
use mathlib.Core.List.{List, [], ◌∷◌, ◌++◌}
use native.Mathlib.Omega.{arith}
use Rattle.one_copy.specs.Types.{Timestamp, Epoch, Message, Request}
use Rattle.one_copy.specs.Listed.{Write}
use Rattle.rules.specs.Limits.{chunk_limit}
use Rattle.rules.specs.Messages.{headed, asking}
use Rattle.rules.specs.Timestamps.{stamp}
use Rattle.rules.specs.Zero.{◌among◌, is_empty}
use Rattle.rules.proofs.Formed.{empty-none}
use Rattle.one_copy.proofs.Tests.{at, at_all, at_same, at_other, at_split, eq_or_ne, not-both}
use Rattle.one_copy.proofs.Abs.{Began, idle, read_k, write_k, idle≢write_k}
use Rattle.one_copy.proofs.Flows.{shrink}
use Rattle.one_copy.proofs.Decide.{writing, reading, committed, aborted, start_write, start_read, commit, abort}
use Rattle.one_copy.proofs.Decide as Decide
use Rattle.one_copy.proofs.Refine.{relist}
use Rattle.one_copy.proofs.Lists.{Any, any_map}
use Rattle.one_copy.proofs.Net.{Sent, OfRead, OfPre, OfCommit, OfAbort, OfValue, OfAck}
use Rattle.one_copy.proofs.View.{Hist, Part, Seat, IsIt, IsTs, cell_of, book, HasW, HasR, flow, NetLe, Drawn, Stamped, CInv, quiet}

-- K is begun under t
abbrev pub begins : Hist → ℕ → Began → ℕ → ℕ → Hist
begins h t K v e = record { kind = at t K h.kind; value = at t v h.value; ae = at t e h.ae; listed = h.listed; reads = h.reads }

-- writes are listed
abbrev pub lists : Hist → List Write → Hist
lists h ws = record { kind = h.kind; value = h.value; ae = h.ae; listed = ws ++ h.listed; reads = h.reads }

-- a read is answered
abbrev pub answers : Hist → Write → Hist
answers h w = record { kind = h.kind; value = h.value; ae = h.ae; listed = h.listed; reads = w ∷ h.reads }

-- a listed write is listed under its timestamp
pub of_it : (t v : ℕ) (l : List Write) → Any (IsIt t v) l → Any (IsTs t) l
of_it t v l q = any_map (IsIt t v) (IsTs t) (λ w z. z.0) l q

module _ (S : ℕ → Type 0) (inside : (c : ℕ) → S c → c < chunk_limit) (b : ℕ) (h : Hist) (ep : ℕ) (hs : ℕ → Seat) (ps : ℕ → Part)
    (n : List (Option Message)) (i : CInv S b h ep hs ps n) where
  -- two hosts are never at one timestamp
  pub unique : (j k t : ℕ) → (hs j).ts ≡ t → (hs k).ts ≡ t → 0 < t → k ≡ j
  unique j k t p q pos = elim (i.stamps j) [
    | inl a ↦ absurd (omega arith)
    | inr a ↦
        elim (i.stamps k) [ inl c ↦ absurd (omega arith) | inr c ↦ omega (arith, a.0, a.1, c.0, c.1) ]
  ]

  module _ (j k : ℕ) (small : j < 8) (later : (hs j).clock < k) where
    -- a timestamp that is drawn is new
    pub unused : h.kind (stamp k j).0 ≡ idle
    unused = elim (i.drawn (stamp k j).0) [
      | inl e ↦ e
      | inr d ↦ absurd (
          let e : d.by ≡ j = (let z = d.is_t in let y = d.small in omega arith) in
          let f : (hs d.by).clock ≡ (hs j).clock = ap (λ a. (hs a).clock) e in
          let z = d.is_t in let y = d.past in omega arith)
    ]

    -- it is not 0
    pub nonzero : (stamp k j).0 ≡ 0 → ⊥
    nonzero e = omega arith

    module _ (y : Seat) (yc : y.clock ≡ k) (yt : y.ts ≡ (stamp k j).0) (yk : y.known ≤ ep) where
      -- clocks do not fall
      up : (d a : ℕ) → d ≤ (hs a).clock → d ≤ (at j y hs a).clock
      up d = at_all (λ a x. d ≤ (hs a).clock → d ≤ x.clock) j y hs (λ e. omega arith) (λ a _ e. e)

      -- what is drawn is drawn
      pub draws : (K : Began) (v e : ℕ) (t : ℕ) → ((begins h (stamp k j).0 K v e).kind t ≡ idle) ⊎ Drawn (at j y hs) t
      draws K v e t = elim (eq_or_ne t (stamp k j).0) [
        | inl q ↦ inr (record { by = j; clock = k; is_t = q; small = small; past = rw (at_same j y hs) (omega arith) })
        | inr q ↦ elim (i.drawn t) [
          | inl z ↦ inl (at_other (stamp k j).0 K h.kind t q ∙ z)
          | inr d ↦ inr (record { by = d.by; clock = d.clock; is_t = d.is_t; small = d.small; past = up d.clock d.by d.past })
        ]
      ]

      -- each host's timestamp is its own
      pub stamps_to : (a : ℕ) → Stamped a (at j y hs a)
      stamps_to = at_all Stamped j y hs (inr (rw (yc, yt) refl, small)) (λ a _. i.stamps a)

      -- no host knows a later epoch
      pub knows : (a : ℕ) → (at j y hs a).known ≤ ep
      knows = at_all (λ a x. x.known ≤ ep) j y hs yk (λ a _. i.known a)

      -- an attempt on another block: nothing of block b
      pub start_other : (n' : List (Option Message)) → NetLe b n' n → (y.block ≡ b → ⊥) → CInv S b h ep (at j y hs) ps n'
      start_other n' sub far = record {
        inv = shrink S (book h ep) (flow S b h hs n) (λ c. cell_of (ps c)) i.inv (flow S b h (at j y hs) n') (record {
          cur = λ t z. has_w t z;
          act = λ t z. (
            elim (at_split (λ x. HasW b x t × (x.okay ≡ true)) j y hs z.0 (z.1, z.2)) [
              | inl p ↦
                  absurd (far p.1.0.block)
              | inr p ↦ (z.0, p.1.0, p.1.1)
            ],
            (z.0, z.1),
          );
          ack = λ t c. elim [
            | inl s ↦ inl (sub.ack t c s)
            | inr z ↦ elim (at_split (λ x. HasW b x t × (x.okay ≡ true) × (c among x.out ≡ false)) j y hs z.0 (z.1, z.2, z.3)) [
              | inl p ↦ absurd (far p.1.0.block)
              | inr p ↦ inr (z.0, p.1.0, p.1.1, p.1.2, z.4)
            ]
          ];
          pre = sub.pre;
          rdm = sub.rdm;
          comm = sub.comm;
          abtm = sub.abtm;
          seen = λ t x. elim [
            | inl s ↦ inl (sub.value t x s)
            | inr z ↦ elim z [
              | inl a ↦ elim (at_split (λ y. HasR b y t x) j y hs a.0 a.1) [
                | inl p ↦ absurd (far p.1.block)
                | inr p ↦
                    inr (inl (a.0, p.1))
              ]
              | inr a ↦ inr (inr a)
            ]
          ];
        });
        vals = i.vals;
        drawn = λ t. elim (i.drawn t) [
          | inl z ↦ inl z
          | inr d ↦
              inr (record { by = d.by; clock = d.clock; is_t = d.is_t; small = d.small; past = up d.clock d.by d.past })
        ];
        stamps = stamps_to;
        mine = at_all (λ a x. (t : ℕ) → HasW b x t → h.value t ≡ x.value) j y hs (λ t z. absurd (far z.block)) (λ a _. i.mine a);
        sane = i.sane;
        known = knows;
      }
        where
          has_w : (t : ℕ) → (a : ℕ) × HasW b (at j y hs a) t → (a : ℕ) × HasW b (hs a) t
          has_w t z = elim (at_split (λ x. HasW b x t) j y hs z.0 z.1) [ inl p ↦ absurd (far p.1.block) | inr p ↦ (z.0, p.1) ]

      -- a write of block b starts
      pub begin_write : (n' : List (Option Message)) (e : Epoch) → ((P : Message → Type 0) → Sent n' P → Sent n P
          ⊎ ((d : ℕ) × P (asking (headed j d b (stamp k j)) e (Request.Prewrite y.value))))
          → e.0 ≤ ep → y.write ≡ true → y.block ≡ b → ((c : ℕ) → S c → c among y.out ≡ true) → (s : ℕ) → S s
          → CInv S b (begins h (stamp k j).0 write_k y.value e.0) ep (at j y hs) ps n'
      begin_write n' e adds le yw yb yo s sm = record {
        inv = shrink S (book h' ep) (writing (flow S b h hs n) (stamp k j).0 y.value e.0) (λ c. cell_of (ps c))
            (start_write S (book h ep) (flow S b h hs n) (λ c. cell_of (ps c)) i.inv (stamp k j).0 y.value e.0 unused
            (λ z. z) nonzero le s sm)
            (flow S b h' (at j y hs) n') (record {
              cur = λ t z. elim (at_split (λ x. HasW b x t) j y hs z.0 z.1) [
                | inl p ↦ inr (sym p.1.stamp ∙ yt)
                | inr p ↦
                    inl (z.0, p.1)
              ];
              act = λ t z. (
                elim (at_split (λ x. HasW b x t × (x.okay ≡ true)) j y hs z.0 (z.1, z.2)) [
                  | inl p ↦
                      inr (sym p.1.0.stamp ∙ yt)
                  | inr p ↦ inl (z.0, p.1.0, p.1.1)
                ],
                (z.0, z.1),
              );
              ack = λ t c. elim [
                | inl q ↦ elim (adds (OfAck b t c) q) [ inl r ↦ inl r | inr r ↦ absurd r.1.0 ]
                | inr z ↦ elim (at_split (λ x. HasW b x t × (x.okay ≡ true) × (c among x.out ≡ false)) j y hs z.0 (z.1, z.2, z.3)) [
                  | inl p ↦ absurd (not-both (c among y.out) (yo c z.4) p.1.2)
                  | inr p ↦ inr (z.0, p.1.0, p.1.1, p.1.2, z.4)
                ]
              ];
              pre = λ c t e' v q. elim (adds (OfPre b c t e' v) q) [
                | inl r ↦ inl r
                | inr r ↦
                    inr (sym r.1.3, sym r.1.0.0, sym r.1.0.1)
              ];
              rdm = λ c t q. elim (adds (OfRead b c t) q) [ inl r ↦ r | inr r ↦ absurd r.1.0 ];
              comm = λ t q. elim (adds (OfCommit b t) q) [ inl r ↦ r | inr r ↦ absurd r.1.0 ];
              abtm = λ t q. elim (adds (OfAbort b t) q) [ inl r ↦ r | inr r ↦ absurd r.1.0 ];
              seen = λ t x. elim [
                | inl q ↦ elim (adds (OfValue b t x) q) [ inl r ↦ inl r | inr r ↦ absurd r.1.0 ]
                | inr z ↦ elim z [
                  | inl a ↦ elim (at_split (λ y. HasR b y t x) j y hs a.0 a.1) [
                    | inl p ↦
                        absurd (not-both y.write yw p.1.write)
                    | inr p ↦ inr (inl (a.0, p.1))
                  ]
                  | inr a ↦ inr (inr a)
                ]
              ];
            });
        vals = λ t v q. at_other (stamp k j).0 y.value h.value t
            (λ z. idle≢write_k (sym unused ∙ ap h.kind (sym z) ∙ i.inv.glob.list_k t (of_it t v h.listed q))) ∙ i.vals t v q;
        drawn = draws write_k y.value e.0;
        stamps = stamps_to;
        mine = at_all (λ a x. (t : ℕ) → HasW b x t → h'.value t ≡ x.value) j y hs
            (λ t z. rw (sym z.stamp ∙ yt) (at_same (stamp k j).0 y.value h.value))
            (λ a _ t z. at_other (stamp k j).0 y.value h.value t
            (λ q. idle≢write_k (sym unused ∙ ap h.kind (sym q) ∙ i.inv.glob.cur_k t (a, z))) ∙ i.mine a t z);
        sane = i.sane;
        known = knows;
      }
        where
          h' : Hist
          h' = begins h (stamp k j).0 write_k y.value e.0

      -- a read of block b starts at a copy
      pub begin_read : (n' : List (Option Message)) (c : ℕ) (e : Epoch) (v : ℕ) → ((P : Message → Type 0) → Sent n' P → Sent n P
          ⊎ P (asking (headed j c b (stamp k j)) e Request.Read))
          → y.write ≡ false → c among y.out ≡ true → S c
          → CInv S b (begins h (stamp k j).0 read_k v e.0) ep (at j y hs) ps n'
      begin_read n' c e v adds yw yo sm = record {
        inv = shrink S (book h' ep) (reading (flow S b h hs n) (stamp k j).0 c) (λ c. cell_of (ps c))
            (start_read S (book h ep) (flow S b h hs n) (λ c. cell_of (ps c)) i.inv (stamp k j).0 c v e.0 sm unused (λ z. z) nonzero)
            (flow S b h' (at j y hs) n') (record {
              cur = λ t z. elim (at_split (λ x. HasW b x t) j y hs z.0 z.1) [
                | inl p ↦
                    absurd (not-both y.write p.1.write yw)
                | inr p ↦ (z.0, p.1)
              ];
              act = λ t z. (
                elim (at_split (λ x. HasW b x t × (x.okay ≡ true)) j y hs z.0 (z.1, z.2)) [
                  | inl p ↦
                      absurd (not-both y.write p.1.0.write yw)
                  | inr p ↦ (z.0, p.1.0, p.1.1)
                ],
                (z.0, z.1),
              );
              ack = λ t c. elim [
                | inl q ↦ elim (adds (OfAck b t c) q) [ inl r ↦ inl r | inr r ↦ absurd r.0 ]
                | inr z ↦ elim (at_split (λ x. HasW b x t × (x.okay ≡ true) × (c among x.out ≡ false)) j y hs z.0 (z.1, z.2, z.3)) [
                  | inl p ↦ absurd (not-both y.write p.1.0.write yw)
                  | inr p ↦ inr (z.0, p.1.0, p.1.1, p.1.2, z.4)
                ]
              ];
              pre = λ c t e' v q. elim (adds (OfPre b c t e' v) q) [ inl r ↦ r | inr r ↦ absurd r.0 ];
              rdm = λ c t q. elim (adds (OfRead b c t) q) [ inl r ↦ inl r | inr r ↦ inr (sym r.3, sym r.2) ];
              comm = λ t q. elim (adds (OfCommit b t) q) [ inl r ↦ r | inr r ↦ absurd r.0 ];
              abtm = λ t q. elim (adds (OfAbort b t) q) [ inl r ↦ r | inr r ↦ absurd r.0 ];
              seen = λ t x. elim [
                | inl q ↦ elim (adds (OfValue b t x) q) [ inl r ↦ inl r | inr r ↦ absurd r.0 ]
                | inr z ↦ elim z [
                  | inl a ↦ elim (at_split (λ y. HasR b y t x) j y hs a.0 a.1) [
                    | inl p ↦
                        absurd (not-both (c among y.out) yo (empty-none y.out p.1.none c (inside c sm)))
                    | inr p ↦
                        inr (inl (a.0, p.1))
                  ]
                  | inr a ↦ inr (inr a)
                ]
              ];
            });
        vals = λ t u q. at_other (stamp k j).0 v h.value t (λ z. idle≢write_k
            (sym unused ∙ ap h.kind (sym z) ∙ i.inv.glob.list_k t (of_it t u h.listed q))) ∙ i.vals t u q;
        drawn = draws read_k v e.0;
        stamps = stamps_to;
        mine = at_all (λ a x. (t : ℕ) → HasW b x t → h'.value t ≡ x.value) j y hs
            (λ t z. absurd (not-both y.write z.write yw))
            (λ a _ t z. at_other (stamp k j).0 v h.value t (λ q. idle≢write_k
            (sym unused ∙ ap h.kind (sym q) ∙ i.inv.glob.cur_k t (a, z))) ∙ i.mine a t z);
        sane = i.sane;
        known = knows;
      }
        where
          h' : Hist
          h' = begins h (stamp k j).0 read_k v e.0

  -- the end of an attempt: the host is left with none
  module _ (j : ℕ) (y : Seat) (yt : y.ts ≡ 0) (yc : y.clock ≡ (hs j).clock) (yk : y.known ≤ ep) where
    -- it has no write
    idle_w : {A : Type 0} (t : ℕ) → HasW b y t → A
    idle_w t z = absurd (let p = z.stamp in let q = z.pos in omega arith)

    -- and no read
    idle_r : {A : Type 0} (t v : ℕ) → HasR b y t v → A
    idle_r t v z = absurd (let p = z.stamp in let q = z.pos in omega arith)

    -- what is drawn stays
    ends-drawn : (t : ℕ) → (h.kind t ≡ idle) ⊎ Drawn (at j y hs) t
    ends-drawn t = elim (i.drawn t) [
      | inl e ↦ inl e
      | inr d ↦ inr (record {
        by = d.by;
        clock = d.clock;
        is_t = d.is_t;
        small = d.small;
        past = at_all (λ k x. d.clock ≤ (hs k).clock → d.clock ≤ x.clock) j y hs (λ e. omega arith) (λ k _ e. e) d.by d.past;
      })
    ]

    -- each host's timestamp is its own
    ends-stamps : (a : ℕ) → Stamped a (at j y hs a)
    ends-stamps = at_all Stamped j y hs (inl yt) (λ k _. i.stamps k)

    -- a current write has its attempt's value
    ends-mine : (a t : ℕ) → HasW b (at j y hs a) t → h.value t ≡ (at j y hs a).value
    ends-mine = at_all (λ k x. (t : ℕ) → HasW b x t → h.value t ≡ x.value) j y hs (λ t z. idle_w t z) (λ k _. i.mine k)

    -- no host knows a later epoch
    ends-known : (a : ℕ) → (at j y hs a).known ≤ ep
    ends-known = at_all (λ a x. x.known ≤ ep) j y hs yk (λ a _. i.known a)

    -- the writes of the others
    rest_w : (t : ℕ) → (a : ℕ) × HasW b (at j y hs a) t → (a : ℕ) × HasW b (hs a) t × (a ≡ j → ⊥)
    rest_w t z = elim (at_split (λ x. HasW b x t) j y hs z.0 z.1) [ inl p ↦ idle_w t p.1 | inr p ↦ (z.0, p.1, p.0) ]

    -- those that are okay
    rest_a : (t : ℕ) → (a : ℕ) × HasW b (at j y hs a) t × ((at j y hs a).okay ≡ true) → (a : ℕ) × HasW b (hs a) t
        × ((hs a).okay ≡ true) × (a ≡ j → ⊥)
    rest_a t z = elim (at_split (λ x. HasW b x t × (x.okay ≡ true)) j y hs z.0 (z.1, z.2)) [
      | inl p ↦ idle_w t p.1.0
      | inr p ↦
          (z.0, p.1.0, p.1.1, p.0)
    ]

    -- those that chunk c has answered
    rest_k : (t c : ℕ) → (a : ℕ) × HasW b (at j y hs a) t × ((at j y hs a).okay ≡ true) × (c among (at j y hs a).out ≡ false) × S c
        → (a : ℕ) × HasW b (hs a) t × ((hs a).okay ≡ true) × (c among (hs a).out ≡ false) × S c
    rest_k t c z = elim (at_split (λ x. HasW b x t × (x.okay ≡ true) × (c among x.out ≡ false)) j y hs z.0 (z.1, z.2, z.3))
        [ inl p ↦ idle_w t p.1.0 | inr p ↦ (z.0, p.1.0, p.1.1, p.1.2, z.4) ]

    -- the reads of the others
    rest_r : (t x : ℕ) → (a : ℕ) × HasR b (at j y hs a) t x → (a : ℕ) × HasR b (hs a) t x
    rest_r t x z = elim (at_split (λ x'. HasR b x' t x) j y hs z.0 z.1) [ inl p ↦ idle_r t x p.1 | inr p ↦ (z.0, p.1) ]

    -- an okay write is committed and listed
    pub end-commit : (n' : List (Option Message)) (t : Timestamp) (e : Epoch) → HasW b (hs j) t.0 → (hs j).okay ≡ true
        → is_empty (hs j).out ≡ true
        → ((P : Message → Type 0) → Sent n' P → Sent n P ⊎ ((d : ℕ) × P (asking (headed j d b t) e Request.Commit)))
        → CInv S b (lists h (record { timestamp = t; value = (hs j).value } ∷ [])) ep (at j y hs) ps n'
    end-commit n' t e hw ok out adds = record {
      inv = shrink S (book h' ep) (committed (flow S b h hs n) t.0) (λ c. cell_of (ps c))
          (relist S (Decide.listed (book h ep) t.0) (committed (flow S b h hs n) t.0) (λ c. cell_of (ps c)) (book h' ep).L
          (commit S (book h ep) (flow S b h hs n) (λ c. cell_of (ps c)) i.inv t.0 (λ z. z) (j, hw, ok)
          (λ c m. inr (j, hw, ok, empty-none (hs j).out out c (inside c m), m)))
          (λ u. elim [ inl q ↦ inr (sym q) | inr q ↦ inl q ]) (λ u. elim [ inl q ↦ inr q | inr q ↦ inl (sym q) ]))
          (flow S b h' (at j y hs) n') (record {
            cur = λ u z. let r = rest_w u z in ((r.0, r.1), λ q. r.2 (other r.0 u r.1 q));
            act = λ u z. let r = rest_a u z in (((r.0, r.1, r.2), λ q. r.3 (other r.0 u r.1 q)), (z.0, z.1));
            ack = λ u c. elim [ inl q ↦ elim (adds (OfAck b u c) q) [ inl r ↦ inl r | inr r ↦ absurd r.1.0 ] | inr z ↦ inr (rest_k u c z) ];
            pre = λ c u e v q. elim (adds (OfPre b c u e v) q) [ inl r ↦ r | inr r ↦ absurd r.1.0 ];
            rdm = λ c u q. elim (adds (OfRead b c u) q) [ inl r ↦ r | inr r ↦ absurd r.1.0 ];
            comm = λ u q. elim (adds (OfCommit b u) q) [ inl r ↦ inl r | inr r ↦ inr (sym r.1.2) ];
            abtm = λ u q. elim (adds (OfAbort b u) q) [ inl r ↦ r | inr r ↦ absurd r.1.0 ];
            seen = λ u x. elim [
              | inl q ↦ elim (adds (OfValue b u x) q) [ inl r ↦ inl r | inr r ↦ absurd r.1.0 ]
              | inr z ↦
                  elim z [ inl a ↦ inr (inl (rest_r u x a)) | inr a ↦ inr (inr a) ]
            ];
          });
      vals = λ u v. elim [ inl q ↦ rw (← q.0, ← q.1) (i.mine j t.0 hw) | inr q ↦ i.vals u v q ];
      drawn = ends-drawn;
      stamps = ends-stamps;
      mine = ends-mine;
      sane = i.sane;
      known = ends-known;
    }
      where
        h' : Hist
        h' = lists h (record { timestamp = t; value = (hs j).value } ∷ [])

        other : (a u : ℕ) → HasW b (hs a) u → u ≡ t.0 → a ≡ j
        other a u z q = unique j a t.0 hw.stamp (z.stamp ∙ q) hw.pos

    -- a write that is not okay is aborted
    pub end-abort : (n' : List (Option Message)) (t : Timestamp) (e : Epoch) → HasW b (hs j) t.0 → (hs j).okay ≡ false
        → ((P : Message → Type 0) → Sent n' P → Sent n P ⊎ ((d : ℕ) × P (asking (headed j d b t) e Request.Abort)))
        → CInv S b h ep (at j y hs) ps n'
    end-abort n' t e hw ok adds = record {
      inv = shrink S (book h ep) (aborted (flow S b h hs n) t.0) (λ c. cell_of (ps c))
          (abort S (book h ep) (flow S b h hs n) (λ c. cell_of (ps c)) i.inv t.0 (j, hw)
          (λ z. not-both (hs j).okay (rw (other z.0 t.0 z.1 refl) at z.2) ok))
          (flow S b h (at j y hs) n') (record {
            cur = λ u z. let r = rest_w u z in ((r.0, r.1), λ q. r.2 (other r.0 u r.1 q));
            act = λ u z. let r = rest_a u z in ((r.0, r.1, r.2), (z.0, z.1));
            ack = λ u c. elim [ inl q ↦ elim (adds (OfAck b u c) q) [ inl r ↦ inl r | inr r ↦ absurd r.1.0 ] | inr z ↦ inr (rest_k u c z) ];
            pre = λ c u e v q. elim (adds (OfPre b c u e v) q) [ inl r ↦ r | inr r ↦ absurd r.1.0 ];
            rdm = λ c u q. elim (adds (OfRead b c u) q) [ inl r ↦ r | inr r ↦ absurd r.1.0 ];
            comm = λ u q. elim (adds (OfCommit b u) q) [ inl r ↦ r | inr r ↦ absurd r.1.0 ];
            abtm = λ u q. elim (adds (OfAbort b u) q) [ inl r ↦ inl r | inr r ↦ inr (sym r.1.2) ];
            seen = λ u x. elim [
              | inl q ↦ elim (adds (OfValue b u x) q) [ inl r ↦ inl r | inr r ↦ absurd r.1.0 ]
              | inr z ↦
                  elim z [ inl a ↦ inr (inl (rest_r u x a)) | inr a ↦ inr (inr a) ]
            ];
          });
      vals = i.vals;
      drawn = ends-drawn;
      stamps = ends-stamps;
      mine = ends-mine;
      sane = i.sane;
      known = ends-known;
    }
      where
        other : (a u : ℕ) → HasW b (hs a) u → u ≡ t.0 → a ≡ j
        other a u z q = unique j a t.0 hw.stamp (z.stamp ∙ q) hw.pos

    -- nothing of block b, or a read of it that failed
    pub end-other : (n' : List (Option Message)) → NetLe b n' n → CInv S b h ep (at j y hs) ps n'
    end-other n' sub = quiet S b h ep hs ps n i j y n' sub (record {
      w = λ t z. idle_w t z;
      okay = λ t z. idle_w t z;
      out = λ t z. idle_w t z;
      r = λ t v z. idle_r t v z;
      value = λ t z. idle_w t z;
      ts = inl yt;
      clock = yc;
      known = yk;
    })

    -- a read is answered to the user
    pub end_read : (t : Timestamp) (v : ℕ) → HasR b (hs j) t.0 v → CInv S b (answers h (record { timestamp = t; value = v })) ep
        (at j y hs) ps n
    end_read t v hr = record {
      inv = shrink S (book h ep) (flow S b h hs n) (λ c. cell_of (ps c)) i.inv
          (flow S b (answers h (record { timestamp = t; value = v })) (at j y hs) n) (record {
            cur = λ u z. let r = rest_w u z in (r.0, r.1);
            act = λ u z. let r = rest_a u z in ((r.0, r.1, r.2), (z.0, z.1));
            ack = λ u c. elim [ inl q ↦ inl q | inr z ↦ inr (rest_k u c z) ];
            pre = λ c u e v q. q;
            rdm = λ c u q. q;
            comm = λ u q. q;
            abtm = λ u q. q;
            seen = λ u x. elim [
              | inl q ↦ inl q
              | inr z ↦ elim z [
                | inl a ↦ inr (inl (rest_r u x a))
                | inr a ↦
                    elim a [ inl q ↦ inr (inl (j, rw (← q.0, ← q.1) hr)) | inr q ↦ inr (inr q) ]
              ]
            ];
          });
      vals = i.vals;
      drawn = ends-drawn;
      stamps = ends-stamps;
      mine = ends-mine;
      sane = i.sane;
      known = ends-known;
    }
