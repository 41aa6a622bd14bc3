-- The events of a chunk keep a table good
use Rattle.std.specs.Prelude.{None, Option, Some}
use Prim.Native.Nat.{ℕ, ◌≤◌, ◌<◌}
use mathlib.Core.Path.{◌≡◌, refl, subst⁻¹, ◌∙◌, ap, fun_ext}
use mathlib.Core.Logic.{◌⊎◌, inl, inr}
use mathlib.Core.Bool.{Bool, true, false, cond, false≢true, true≢false}
use mathlib.Core.List.{List, [], ◌∷◌}
use native.Mathlib.Omega.{arith}
use lib.ListN.{length, get_or, drop, length-take}
use lib.Dec.{eqb}
use borrow.Author.Tests.{ltb-false, not-false}
use Rattle.one_copy.specs.Types.{Timestamp, Kind, Entry, Waiting, Record, Chunk, Header, Message, Refusal, Sort, Table, Arrived, Outcome}
use Rattle.rules.specs.Chunks.{with_waiting, emptied, run_refusals, runs, ran, failed, lease_given, lease_taken, recovered, overdue, give_lease_refusals}
use Rattle.rules.specs.Codes.{code_of}
use Rattle.rules.specs.Events.{with_arrived}
use Rattle.rules.specs.Kinds.{is_undecided, is_normal}
use Rattle.rules.specs.Limits.{chunk_limit, block_limit}
use Rattle.rules.specs.Messages.{headed, message_of}
use Rattle.rules.specs.Network.{sent, replied}
use Rattle.rules.specs.Tables.{is_chunk, is_block, chunk_of, record_of, records_by, with_places, with_chunk, with_record, with_records}
use Rattle.rules.specs.Timestamps.{◌below◌, later}
use Rattle.rules.specs.Waiting.{in_order, head, head_removed}
use Rattle.rules.specs.Words.{every}
use Rattle.rules.specs.Zero.{zero_entry, no_chunk}
use Rattle.rules.proofs.Formed.{Formed, FormedWaiting, chunk-place, block-place, waiting_of}
use Rattle.rules.proofs.Lists.{walk, upper-left, upper_right, upper-one}
use Rattle.rules.proofs.Messages.{ran-same, left_as}
use Rattle.rules.proofs.Refusals.{granted_exactly}
use Rattle.rules.proofs.Relies.{run-head}
use Rattle.one_copy.proofs.Tests.{at, at_pair, eq_or_ne}
use Rattle.one_copy.proofs.Lists.{Any, get_d_set}
use Rattle.one_copy.proofs.Net.{Sent, sent-one}
use Rattle.one_copy.proofs.Queue.{removed-order, least}
use Rattle.one_copy.proofs.View.{Hist, Part, part_with, part_of, seats_of, NetLe, Foreign, net_less, net_foreign, plain, far_message, CInv}
use Rattle.one_copy.proofs.Chunks.{with_queue, wrote, was_read, net_only, mode-only, falls, runs_cmt, runs_off, runs-read}
use Rattle.one_copy.proofs.Shapes.{Shape, shape-chunk}
use Rattle.one_copy.proofs.Good.{In, Good, good-chunk, good_record, good-records, good-far, emptied-at, Next, unnoted}
use Rattle.one_copy.proofs.EvHost.{net_same}

-- ---- the later of two timestamps

-- it is one of the two, and neither is above it
later-one : (t u : Timestamp) → (((later t u).0 ≡ u.0) × (t.0 ≤ (later t u).0)) ⊎ (((later t u).0 ≡ t.0) × (u.0 ≤ (later t u).0))
later-one t u = let key : Timestamp → ℕ = λ x. x.0 in elim (upper-one key t u) [
  | inl e ↦ inr (ap key e, upper_right key t u)
  | inr e ↦ inl (ap key e, upper-left key t u)
]

-- the later one is the second where it is not below
later-up : (t u : Timestamp) → t.0 ≤ u.0 → (later t u).0 ≡ u.0
later-up t u h = elim (later-one t u) [ inl z ↦ z.0 | inr z ↦ omega (arith, z.0, z.1) ]

-- ---- a reply that says nothing of block b

-- nothing, or a message that says nothing of block b
abbrev pub Plain : (b : ℕ) → Option Message → Type 0
Plain b None = Unit {0}
Plain b (Some m) = Foreign b m

-- such a reply adds nothing
pub net_replied : (b : ℕ) (n n₀ : List (Option Message)) → ((P : Message → Type 0) → Sent n P → Sent n₀ P) → (reply : Option Message) → Plain b reply
    → NetLe b (replied n reply) n₀
unfolding replied
net_replied b n n₀ sub None p = net_less b n n₀ sub
net_replied b n n₀ sub (Some m) p = net_foreign b (sent n m) n₀ ℕ (λ _. m)
    (λ P z. elim (sent-one P m n z) [ inl q ↦ inl (sub P q) | inr q ↦ inr (0, q) ]) (λ _. p)

-- a list that is not empty has its head
head_first : (l : List Entry) → 0 < length l → l ≡ get_or l 0 zero_entry ∷ drop 1 l
head_first [] h = absurd (omega arith)
head_first (x ∷ xs) h = refl

module _ (b : ℕ) (h : Hist) (t : Table) (f : Formed t) (s : Shape t) (lb : is_block t.creation b ≡ true) (i : Good b h t) (c : ℕ)
    (lc : is_chunk t.creation c ≡ true) where
  -- the chunks of the set
  abbrev S : ℕ → Type 0
  S = In t.creation b

  -- the chunk's place
  place-c : c < chunk_limit
  place-c = chunk-place t.creation c lc f.creation

  -- this block's place
  place-b : b < block_limit
  place-b = block-place t.creation b lb f.creation

  -- ---- run

  module _ (d : ℕ) (ld : is_block t.creation d ≡ true) (free : ℕ) (e : code_of
      (run_refusals (chunk_of t c).state (record_of t c d).waiting free) ≡ 0) where
    -- the record
    abbrev r : Record
    r = record_of t c d

    -- the block's place
    place-d : d < block_limit
    place-d = block-place t.creation d ld f.creation

    -- the chunk is normal
    normal : is_normal (chunk_of t c).state ≡ true
    unfolding every
    normal = not-false (is_normal (chunk_of t c).state) ((granted_exactly (run_refusals (chunk_of t c).state r.waiting free) refl).0 e 0
        (omega arith))

    -- the head is decided
    decided : is_undecided (head r.waiting).kind ≡ false
    unfolding every
    decided = (granted_exactly (run_refusals (chunk_of t c).state r.waiting free) refl).0 e 2 (omega arith)

    -- the waiting list is formed
    formed_w : FormedWaiting t.creation r.waiting
    formed_w = waiting_of t f c d place-c place-d

    -- there is a head
    first : in_order r.waiting ≡ head r.waiting ∷ drop 1 (in_order r.waiting)
    first = head_first (in_order r.waiting)
        (omega (
          arith,
          run-head (chunk_of t c).state r.waiting free e,
          formed_w.count,
          s.entries c d place-c place-d,
          length-take
              r.waiting.count r.waiting.entries,
        ))

    -- what a run leaves is good
    abbrev Ran : Arrived → Type 0
    Ran a = Good b h (with_places (with_record t c d a.held) (replied t.places a.reply))

    -- at another block
    run-far : (d ≡ b → ⊥) → (x : Record) (y : Option Message) → Plain b y → Good b h (with_places (with_record t c d x) (replied t.places y))
    run-far far x y p = good-far b h t s c d x _ place-b place-d far
        (net_only S b h t.epoch.0 (seats_of t) (part_of t b) t.places i _
        (net_replied b t.places t.places (λ P z. z) y p))

    -- the head of another block, by its kind
    far_as : (d ≡ b → ⊥) → (k : Kind) → Ran (runs c d (chunk_of t c) (with_waiting r (head_removed r.waiting)) (head r.waiting) k)
    far_as far (Kind.Aborted v) = run-far far _ _ tt
    far_as far (Kind.Committed v) = run-far far _ _ tt
    far_as far (Kind.Undecided v) = run-far far _ _ tt
    far_as far Kind.Read = walk Ran ((head r.waiting).timestamp below r.write) _ _
        (λ _. run-far far _ _ (plain b (headed (head r.waiting).sender c d (head r.waiting).timestamp) Refusal.OutOfOrder))
        (λ _. run-far far _ _ (far_message b (headed (head r.waiting).sender c d (head r.waiting).timestamp)
        (Sort.ReadReply r.value) far))

  -- at this block
  module _ (free : ℕ) (e : code_of (run_refusals (chunk_of t c).state (record_of t c b).waiting free) ≡ 0) where
    -- the waiting list
    abbrev w : Waiting
    w = (record_of t c b).waiting

    -- the list without its head
    rest : in_order (head_removed w) ≡ drop 1 (in_order w)
    rest = removed-order w (formed_w b lb free e).count

    -- nothing that waits is below the head
    low : (P : Entry → Type 0) → Any P (head w ∷ drop 1 (in_order w)) → (x : Entry) × P x × ((head w).timestamp.0 ≤ x.timestamp.0)
    low = least t.creation w (formed_w b lb free e) (head w) (drop 1 (in_order w)) (first b lb free e)

    -- the part with the head removed
    put : (g : List Entry → Part) (n : List (Option Message)) → CInv S b h t.epoch.0 (seats_of t) (at c (g (drop 1 (in_order w))) (part_of t b)) n
        → CInv S b h t.epoch.0 (seats_of t) (at c (g (in_order (head_removed w))) (part_of t b)) n
    put g n v = subst⁻¹ (λ (q : List Entry). CInv S b h t.epoch.0 (seats_of t) (at c (g q) (part_of t b)) n) rest v

    -- the head of this block, by its kind
    here_as : (k : Kind) → (head w).kind ≡ k → is_undecided k ≡ false → Ran b lb free e
        (runs c b (chunk_of t c) (with_waiting (record_of t c b) (head_removed w)) (head w) k)
    unfolding replied
    here_as (Kind.Undecided v) ek u = absurd (true≢false u)
    here_as (Kind.Aborted v) ek u = good_record b h t s c _ t.places place-c place-b (put (with_queue (part_of t b c)) t.places
        (runs_off S b h t.epoch.0 (seats_of t) (part_of t b) t.places i c (normal b lb free e) (head w) (drop 1 (in_order w))
        (first b lb free e) low t.places (net_same b t.places) (λ u x a z. (rw ek at z.1).1)))
    here_as (Kind.Committed v) ek u = good_record b h t s c _ t.places place-c place-b
        (put (wrote (part_of t b c) v (later (record_of t c b).write (head w).timestamp).0) t.places
        (runs_cmt S b h t.epoch.0 (seats_of t) (part_of t b) t.places i c (normal b lb free e) (head w) (drop 1 (in_order w))
        (first b lb free e) low v (later (record_of t c b).write (head w).timestamp).0 t.places (net_same b t.places) ek
        (later-up (record_of t c b).write (head w).timestamp)))
    here_as Kind.Read ek u = walk (Ran b lb free e) ((head w).timestamp below (record_of t c b).write) _ _
        (λ _. good_record b h t s c _ _ place-c place-b (put (with_queue (part_of t b c)) _
        (runs_off S b h t.epoch.0 (seats_of t) (part_of t b) t.places i c (normal b lb free e) (head w) (drop 1 (in_order w))
        (first b lb free e) low _
        (net_replied b t.places t.places (λ P z. z) (Some (message_of hd (Sort.Refusal Refusal.OutOfOrder))) (plain b hd Refusal.OutOfOrder))
        (λ u x a z. absurd (rw ek at z.1)))))
        (λ o. good_record b h t s c _ _ place-c place-b
        (put (was_read (part_of t b c) (later (record_of t c b).read (head w).timestamp).0) _
        (runs-read S b h t.epoch.0 (seats_of t) (part_of t b) t.places i c (normal b lb free e) (head w) (drop 1 (in_order w))
        (first b lb free e) low (later (record_of t c b).read (head w).timestamp).0 _ (head w).sender
        (λ P z. sent-one P _ t.places z) ek (ltb-false (head w).timestamp.0 (record_of t c b).write.0 o)
        (later-one (record_of t c b).read (head w).timestamp))))
      where
        hd : Header
        hd = headed (head w).sender c b (head w).timestamp

  -- a run, at this block or another
  pub ev_run : (d : ℕ) → is_block t.creation d ≡ true → (free : ℕ) → code_of
      (run_refusals (chunk_of t c).state (record_of t c d).waiting free) ≡ 0
      → Next b h t [] Outcome.None (with_arrived t c d (ran c d (chunk_of t c) (record_of t c d)))
  unfolding ran
  ev_run d ld free e = unnoted b h t _ (subst⁻¹ (Good b h) (left_as t c d _ (ran-same (chunk_of t c) c d (record_of t c d))) (elim (eq_or_ne d b) [
    | inl q ↦ subst⁻¹ (λ d. code_of (run_refusals (chunk_of t c).state (record_of t c d).waiting free) ≡ 0
        → Good b h (with_places (with_record t c d (runs c d (chunk_of t c) (with_waiting (record_of t c d) (head_removed (record_of t c d).waiting))
        (head (record_of t c d).waiting) (head (record_of t c d).waiting).kind).held)
        (replied t.places (runs c d (chunk_of t c) (with_waiting (record_of t c d) (head_removed (record_of t c d).waiting))
        (head (record_of t c d).waiting) (head (record_of t c d).waiting).kind).reply))) q
        (λ e. here_as free e (head (record_of t c b).waiting).kind refl (decided b lb free e)) e
    | inr far ↦ far_as d ld free e far (head (record_of t c d).waiting).kind
  ]))

  -- ---- the chunk's own events

  -- another state
  mode : (x : Chunk) → x.lost ≡ (chunk_of t c).lost → (is_normal x.state ≡ true → (chunk_of t c).lost ≡ false)
      → Next b h t [] Outcome.None (with_chunk t c x)
  mode x e ok = unnoted b h t _ (good-chunk b h t s c x t.places place-c
      (subst⁻¹ (λ (l : Bool). CInv S b h t.epoch.0 (seats_of t) (at c
      (part_with (record { state = x.state; lost = l; epoch = x.epoch; reconcile = x.reconcile }) (record_of t c b)) (part_of t b))
      t.places) e
      (mode-only S b h t.epoch.0 (seats_of t) (part_of t b) t.places i c x.state t.places (net_same b t.places) ok)))

  -- recover
  pub ev_recover : Next b h t [] Outcome.None (with_chunk t c (recovered (chunk_of t c)))
  ev_recover = mode (recovered (chunk_of t c)) refl (λ e. absurd (false≢true e))

  -- take lease
  pub ev_take : Next b h t [] Outcome.None (with_chunk t c (lease_taken (chunk_of t c)))
  ev_take = mode (lease_taken (chunk_of t c)) refl (λ e. absurd (false≢true e))

  -- a lease for a chunk that is not lost
  pub ev_give : code_of (give_lease_refusals (chunk_of t c).state (chunk_of t c).lost) ≡ 0
      → Next b h t [] Outcome.None (with_chunk t c (lease_given (chunk_of t c)))
  unfolding every
  ev_give e = mode (lease_given (chunk_of t c)) refl (λ _. (granted_exactly
      (give_lease_refusals (chunk_of t c).state (chunk_of t c).lost) refl).0 e 1 (omega arith))

  -- overdue: no part of the view changes
  pub ev_overdue : (d : ℕ) → Next b h t [] Outcome.None (with_chunk t c (overdue (chunk_of t c) d))
  ev_overdue d = mode (overdue (chunk_of t c) d) refl (i.sane c)

  -- fail
  pub ev_fail : Next b h t [] Outcome.None (with_records (with_chunk t c (failed (chunk_of t c)))
      (records_by (λ d b. cond (eqb d c) (emptied (record_of t d b)) (record_of t d b))))
  ev_fail = unnoted b h t _ (good-records b h (with_chunk t c x) (shape-chunk t s c x)
      (records_by (λ d b. cond (eqb d c) (emptied (record_of t d b)) (record_of t d b)))
      (at c (emptied (record_of t c b)) (λ a. record_of t a b))
      (emptied-at b h t s c place-c place-b) t.places
      (subst⁻¹ (λ (g : ℕ → Part). CInv S b h t.epoch.0 (seats_of t) g t.places)
      (fun_ext (λ a. ap (λ (y : Chunk). part_with y (at c (emptied (record_of t c b)) (λ a. record_of t a b) a))
      (get_d_set t.chunks c x no_chunk (omega (arith, s.chunks, place-c)) a))
      ∙ at_pair part_with c x (emptied (record_of t c b)) (chunk_of t) (λ a. record_of t a b))
      (falls S b h t.epoch.0 (seats_of t) (part_of t b) t.places i c t.places (net_same b t.places))))
    where
      x : Chunk
      x = failed (chunk_of t c)
