-- A timestamp belongs to one block: what mentions (timestamp, block), and that no event but a start mentions anything new
use Rattle.std.specs.Prelude.{Option}
use Prim.Native.Nat.{ℕ, ◌+◌, ◌*◌, ◌≤◌, ◌<◌}
use mathlib.Core.Path.{◌≡◌, sym, subst, subst⁻¹, ◌∙◌, ap}
use mathlib.Core.Logic.{◌⊎◌, inl, inr}
use mathlib.Core.List.{List}
use native.Mathlib.Omega.{arith}
use lib.ListN.{length, get_or, set}
use lib.Seq.{get_or-set_same}
use Rattle.one_copy.specs.Types.{Timestamp, Set, Entry, Record, Chunk, Operation, Host, Message, Table}
use Rattle.rules.specs.Hosts.{front}
use Rattle.rules.specs.Limits.{host_limit, block_limit, operation_limit, waiting_limit}
use Rattle.rules.specs.Network.{sent, sent_to_each}
use Rattle.rules.specs.Tables.{host_of, record_of, with_places, with_host, with_chunk, with_record}
use Rattle.rules.specs.Timestamps.{stamp}
use Rattle.rules.specs.Waiting.{in_order}
use Rattle.rules.specs.Zero.{no_host, no_record}
use Rattle.rules.proofs.Lists.{get_set}
use Rattle.one_copy.proofs.Tests.{at, at_same, at_other}
use Rattle.one_copy.proofs.Lists.{Any}
use Rattle.one_copy.proofs.Net.{OfBoth, Sent, sent-one, sent-each}
use Rattle.one_copy.proofs.View.{seats_of, Drawn}
use Rattle.one_copy.proofs.Shapes.{Shape, shape-host, shape-chunk, shape_record, shape-places}

-- an entry under a timestamp
abbrev pub AtTs : ℕ → Entry → Type 0
AtTs u e = e.timestamp.0 ≡ u

-- a host at work under u on block d
pub record HostAt (x : Host) (u d : ℕ) : Type 0 where
  pub stamp : x.attempt.timestamp.0 ≡ u
  pub pos : 0 < u
  pub block : (front x).block ≡ d

-- something in the table has timestamp u and block d
abbrev pub Mention : Table → (u d : ℕ) → Type 0
Mention t u d = ((j : ℕ) × HostAt (host_of t j) u d) ⊎ (Sent t.places (OfBoth d u)
    ⊎ ((c : ℕ) × (d < block_limit) × Any (AtTs u) (in_order (record_of t c d).waiting)))

-- nothing new is mentioned, clocks do not fall, and the arrays keep their lengths
pub record Less (t' t : Table) : Type 0 where
  pub ment : (u d : ℕ) → Mention t' u d → Mention t u d
  pub clocks : (j : ℕ) → (host_of t j).clock ≤ (host_of t' j).clock
  pub shape : Shape t → Shape t'

-- ---- a table with one part changed

module _ (t : Table) where
  -- n mentions nothing new
  abbrev pub NetOk : List (Option Message) → Type 0
  NetOk n = (u d : ℕ) → Sent n (OfBoth d u) → Mention t u d

  -- the same messages
  pub same_net : NetOk t.places
  same_net u d z = inr (inl z)

  -- other messages
  pub less-places : (n : List (Option Message)) → NetOk n → Less (with_places t n) t
  less-places n ok = record {
    ment = λ u d. elim [ inl z ↦ inl z | inr z ↦ elim z [ inl q ↦ ok u d q | inr q ↦ inr (inr q) ] ];
    clocks = λ j. omega arith;
    shape = λ s. shape-places t s n;
  }

  -- host j changed
  pub less-host : (j : ℕ) (y : Host) (n : List (Option Message)) → ((u d : ℕ) → HostAt y u d → Mention t u d) → (host_of t j).clock ≤ y.clock
      → (Shape t → length y.queue.operations ≡ operation_limit) → NetOk n → Less (with_places (with_host t j y) n) t
  less-host j y n f up len ok = record {
    ment = λ u d. elim [
      | inl z ↦ elim (get_set t.hosts j z.0 y no_host) [
        | inl e ↦ f u d (subst (λ (x : Host). HostAt x u d) e.1 z.1)
        | inr e ↦
            inl (z.0, subst (λ (x : Host). HostAt x u d) e z.1)
      ]
      | inr z ↦ elim z [ inl q ↦ ok u d q | inr q ↦ inr (inr q) ]
    ];
    clocks = λ a. elim (get_set t.hosts j a y no_host) [
      | inl e ↦ subst⁻¹ (λ (x : Host). (host_of t a).clock ≤ x.clock) e.1 (subst⁻¹ (λ (a : ℕ). (host_of t a).clock ≤ y.clock) e.0 up)
      | inr e ↦ subst⁻¹ (λ (x : Host). (host_of t a).clock ≤ x.clock) e (omega arith)
    ];
    shape = λ s. shape-places (with_host t j y) (shape-host t s j y (len s)) n;
  }

  -- a chunk changed, without its records
  pub less-chunk : (c : ℕ) (x : Chunk) → Less (with_chunk t c x) t
  less-chunk c x = record { ment = λ u d z. z; clocks = λ j. omega arith; shape = λ s. shape-chunk t s c x }

  -- a record changed
  pub less_record : (c d : ℕ) (r : Record) (n : List (Option Message)) → d < block_limit
      → ((u : ℕ) → Any (AtTs u) (in_order r.waiting) → Mention t u d)
      → (Shape t → length r.waiting.entries ≡ waiting_limit) → NetOk n → Less (with_places (with_record t c d r) n) t
  less_record c d r n l f len ok = record {
    ment = λ u a. elim [
      | inl z ↦ inl z
      | inr z ↦ elim z [
        | inl q ↦ ok u a q
        | inr q ↦ elim (get_set t.records (c * block_limit + d) (q.0 * block_limit + a) r no_record) [
          | inl e ↦ (let y = e.0 in let m = q.1 in let g : a ≡ d = omega arith in
              subst⁻¹ (Mention t u) g (f u (subst (λ (x : Record). Any (AtTs u) (in_order x.waiting)) e.1 q.2)))
          | inr e ↦ inr (inr (q.0, q.1, subst (λ (x : Record). Any (AtTs u) (in_order x.waiting)) e q.2))
        ]
      ]
    ];
    clocks = λ j. omega arith;
    shape = λ s. shape-places (with_record t c d r) (shape_record t s c d r (len s)) n;
  }

  -- a message more, and messages more
  pub one_ok : (m : Message) (n : List (Option Message)) → NetOk n → ((u d : ℕ) → OfBoth d u m → Mention t u d) → NetOk (sent n m)
  one_ok m n ok f u d z = elim (sent-one (OfBoth d u) m n z) [ inl q ↦ ok u d q | inr q ↦ f u d q ]

  -- to each chunk of a set
  pub each-ok : (f : ℕ → Message) (to : Set) (n : List (Option Message)) → NetOk n → ((a u d : ℕ) → OfBoth d u (f a) → Mention t u d)
      → NetOk (sent_to_each n to f)
  each-ok f to n ok g u d z = elim (sent-each (OfBoth d u) f to n z) [ inl q ↦ ok u d q | inr q ↦ g q.0 u d q.3 ]

  -- ---- hosts

  -- a host that keeps its timestamp and its front operation, or has none
  pub kept : (j : ℕ) (y : Host) → (0 < y.attempt.timestamp.0 → front y ≡ front (host_of t j))
      → y.attempt.timestamp ≡ (host_of t j).attempt.timestamp → (u d : ℕ) → HostAt y u d → Mention t u d
  kept j y eo et u d z = inl (
    j,
    record {
      stamp = sym (ap (λ (a : Timestamp). a.0) et) ∙ z.stamp;
      pos = z.pos;
      block = sym (ap (λ (o : Operation). o.block) (eo (omega (arith, z.stamp, z.pos)))) ∙ z.block;
    },
  )

  -- .. or is at rest
  pub rested : (y : Host) → y.attempt.timestamp.0 ≡ 0 → (u d : ℕ) → HostAt y u d → Mention t u d
  rested y e u d z = absurd (omega (arith, e, z.stamp, z.pos))

-- ---- the block of each timestamp that was drawn

-- each mention is of the block under which the timestamp was drawn
abbrev pub Homes : (ℕ → ℕ) → Table → Type 0
Homes blk t = (u d : ℕ) → Mention t u d → Drawn (seats_of t) u × (blk u ≡ d)

-- nothing new is mentioned: it holds still
pub still : (blk : ℕ → ℕ) (t t' : Table) → Homes blk t → Less t' t → Homes blk t'
still blk t t' h l u d m = let z = h u d (l.ment u d m) in let w = z.0 in (
  record {
    by = w.by;
    clock = w.clock;
    is_t = w.is_t;
    small = w.small;
    past =
        (let a = l.clocks w.by in let b = w.past in omega arith);
  },
  z.1,
)

-- a start under a new timestamp
module _ (blk : ℕ → ℕ) (t : Table) (s : Shape t) (h : Homes blk t) (j k : ℕ) (small : j < host_limit) (later : (host_of t j).clock < k) where
  -- the new timestamp was not drawn
  undrawn : Drawn (seats_of t) (stamp k j).0 → ⊥
  undrawn d =
      let e : d.by ≡ j = (let z = d.is_t in let y = d.small in omega arith) in
      let f : (host_of t d.by).clock ≡ (host_of t j).clock = ap (λ (a : ℕ). (host_of t a).clock) e in
      let z = d.is_t in let y = d.past in omega arith

  -- the host and its messages mention it with block b
  pub begins-home : (y : Host) (n : List (Option Message)) (b : ℕ) → y.attempt.timestamp.0 ≡ (stamp k j).0 → (front y).block ≡ b → y.clock ≡ k
      → ((u d : ℕ) → Sent n (OfBoth d u) → Sent t.places (OfBoth d u) ⊎ ((b ≡ d) × ((stamp k j).0 ≡ u)))
      → Homes (at (stamp k j).0 b blk) (with_places (with_host t j y) n)
  begins-home y n b yt yb yc adds u d m = elim cases [
    | inl z ↦ (let w = h u d z in (up u w.0, at_other (stamp k j).0 b blk u (λ e. undrawn (subst (Drawn (seats_of t)) e w.0)) ∙ w.1))
    | inr z ↦ (
      record { by = j; clock = k; is_t = sym z.1; small = small; past = subst⁻¹ (λ (x : Host). k ≤ x.clock) here (omega arith) },
      ap (at (stamp k j).0 b blk) (sym z.1) ∙ at_same (stamp k j).0 b blk ∙ z.0,
    )
  ]
    where
      here : get_or (set t.hosts j y) j no_host ≡ y
      here = get_or-set_same t.hosts j y no_host (omega (arith, s.hosts))

      up : (u : ℕ) → Drawn (seats_of t) u → Drawn (seats_of (with_host t j y)) u
      up u w = record {
        by = w.by;
        clock = w.clock;
        is_t = w.is_t;
        small = w.small;
        past = elim (get_set t.hosts j w.by y no_host) [
          | inl e ↦ subst⁻¹ (λ (x : Host). w.clock ≤ x.clock) e.1 (let a = w.past in
              let b : (host_of t w.by).clock ≡ (host_of t j).clock = ap (λ (a : ℕ). (host_of t a).clock) e.0 in omega arith)
          | inr e ↦ subst⁻¹ (λ (x : Host). w.clock ≤ x.clock) e w.past
        ];
      }

      cases : Mention t u d ⊎ ((b ≡ d) × ((stamp k j).0 ≡ u))
      cases = elim m [
        | inl z ↦ elim (get_set t.hosts j z.0 y no_host) [
          | inl e ↦ (let w = subst (λ (x : Host). HostAt x u d) e.1 z.1 in inr (sym yb ∙ w.block, sym yt ∙ w.stamp))
          | inr e ↦ inl (inl (z.0, subst (λ (x : Host). HostAt x u d) e z.1))
        ]
        | inr z ↦ elim z [ inl q ↦ elim (adds u d q) [ inl r ↦ inl (inr (inl r)) | inr r ↦ inr r ] | inr q ↦ inl (inr (inr q)) ]
      ]
