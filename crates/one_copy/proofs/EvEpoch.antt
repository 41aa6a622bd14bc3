-- An epoch change keeps a table good, and lists what it commits
use Prim.Native.Nat.{ℕ, suc, ◌+◌, ◌<◌}
use mathlib.Core.Path.{◌≡◌, refl, sym, subst, subst⁻¹, ◌∙◌, ap}
use mathlib.Core.Logic.{◌⊎◌, inl, inr}
use mathlib.Core.Bool.{Bool, true, false, cond}
use mathlib.Core.List.{[], ◌++◌}
use native.Mathlib.Omega.{arith}
use lib.ListN.{length, get_or, get_or-eq_default}
use Rattle.one_copy.specs.Types.{Timestamp, Record, State, Chunk, Table, Outcome}
use Rattle.one_copy.specs.Listed.{by_change}
use Rattle.rules.specs.Built.{no_blocks}
use Rattle.rules.specs.Chunks.{emptied}
use Rattle.rules.specs.Codes.{code_of}
use Rattle.rules.specs.Events.{copies_of, renewed, epoch_changed, epoch_refusals}
use Rattle.rules.specs.Kinds.{is_normal}
use Rattle.rules.specs.Limits.{chunk_limit, block_limit}
use Rattle.rules.specs.Settlement.{W, beside_w, commits, written_with, settled_record, settled}
use Rattle.rules.specs.Tables.{is_chunk, is_block, set_of, chunk_of, record_of, records_by, with_records}
use Rattle.rules.specs.Timestamps.{next}
use Rattle.rules.specs.Waiting.{in_order}
use Rattle.rules.specs.Words.{each, numbers}
use Rattle.rules.specs.Zero.{◌among◌, no_copy, no_chunk, no_record}
use Rattle.rules.proofs.Formed.{Formed}
use Rattle.rules.proofs.Lists.{each_number, each-length, numbers-length, grid-at}
use Rattle.rules.proofs.Relies.{epoch-holder}
use Rattle.one_copy.proofs.Tests.{le_or_lt}
use Rattle.one_copy.proofs.Abs.{Cell}
use Rattle.one_copy.proofs.Settle.{Chosen, Settling, settle, settled_book, settled_cell}
use Rattle.one_copy.proofs.Refine.{Same, recell, relist}
use Rattle.one_copy.proofs.Lists.{Any, any_map, any_at, any_append, any_left, any_right, any_each, each_any}
use Rattle.one_copy.proofs.View.{Hist, Part, part_of, seats_of, IsIt, IsTs, IsR, cell_of, book, flow, CInv}
use Rattle.one_copy.proofs.Hosts.{lists}
use Rattle.one_copy.proofs.Shapes.{records-beyond, shape-records, shape-epoch}
use Rattle.one_copy.proofs.Good.{In, Good, inside, small, Next, none_done}
use Rattle.one_copy.proofs.Epoch.{settled_at_lem, commits_in, commits_has, written, settling}
use Rattle.one_copy.proofs.Homes.{AtTs, Less}

-- ---- the changed table, read

module _ (t : Table) where
  -- every record's waiting list is empty
  pub none_wait : (c b : ℕ) → b < block_limit → in_order (record_of (epoch_changed t) c b).waiting ≡ []
  unfolding settled_record
  none_wait c b lb = elim (le_or_lt chunk_limit c) [
    | inl q ↦ ap (λ (r : Record). in_order r.waiting) (records-beyond (λ c b. (get_or (settled (copies_of t b)) c no_copy).held) c b q)
    | inr q ↦ ap (λ (r : Record). in_order r.waiting)
        (grid-at (λ c b. (get_or (settled (copies_of t b)) c no_copy).held) chunk_limit block_limit c b no_record q lb ∙ settled_at_lem t b c q)
        ∙ go (c among set_of t.creation b)
  ]
    where
      go : (m : Bool) → in_order (cond m (settled_record (copies_of t b)) (emptied (record_of t c b))).waiting ≡ []
      go true = refl
      go false = refl

  -- a chunk that is normal is not lost
  renewed-sane : (x : Bool) (c : Chunk) (k : Chunk) → k.lost ≡ false → (is_normal c.state ≡ true → c.lost ≡ false)
      → is_normal (cond x k c).state ≡ true → (cond x k c).lost ≡ false
  renewed-sane true c k e f h = e
  renewed-sane false c k e f h = f h

  -- so it is after the change
  pub changed-sane : ((c : ℕ) → is_normal (chunk_of t c).state ≡ true → (chunk_of t c).lost ≡ false) → (c : ℕ)
      → is_normal (chunk_of (epoch_changed t) c).state ≡ true → (chunk_of (epoch_changed t) c).lost ≡ false
  changed-sane f c = elim (le_or_lt chunk_limit c) [
    | inl q ↦ λ _. ap (λ (x : Chunk). x.lost) (get_or-eq_default (each (renewed t.creation (next t.epoch) t.chunks) (numbers chunk_limit)) no_chunk
        (omega (arith, each-length (renewed t.creation (next t.epoch) t.chunks) (numbers chunk_limit), numbers-length chunk_limit)))
    | inr q ↦ subst⁻¹ (λ (x : Chunk). is_normal x.state ≡ true → x.lost ≡ false) (each_number (renewed t.creation (next t.epoch) t.chunks) chunk_limit c no_chunk q)
        (renewed-sane (is_chunk t.creation c) (chunk_of t c) _ refl (f c))
  ]

module _ (b : ℕ) (h : Hist) (t : Table) (f : Formed t) (lb : is_block t.creation b ≡ true) (i : Good b h t)
    (e : code_of (epoch_refusals t.creation t.epoch t.chunks) ≡ 0) where
  -- the chunks of the set
  abbrev S : ℕ → Type 0
  S = In t.creation b

  -- the settled record
  abbrev r : Record
  r = settled_record (copies_of t b)

  -- the part of a chunk of the set
  pub changed-part : (c : ℕ) → S c → part_of (epoch_changed t) b c ≡ record {
    mode = State.Normal;
    lost = false;
    val = r.value;
    rd =
        r.read.0;
    wr = r.write.0;
    queue = [];
  }
  unfolding settled_record
  changed-part c m =
      let l = inside t f b lb c m in
      let ec : chunk_of (epoch_changed t) c ≡ record {
        state = State.Normal;
        lost = false;
        epoch = next t.epoch;
        reconcile =
            no_blocks;
      } = each_number (renewed t.creation (next t.epoch) t.chunks) chunk_limit c no_chunk l ∙ rw m.0 refl in
      let er : record_of (epoch_changed t) c b ≡ r = grid-at (λ c b. (get_or (settled (copies_of t b)) c no_copy).held) chunk_limit block_limit
      c b no_record l (small t f b lb) ∙ settled_at_lem t b c l ∙ rw m.1 refl in
      rw (ec, er) refl

  -- the cells before
  abbrev cells : ℕ → Cell
  cells c = cell_of (part_of t b c)

  -- a write that the change commits
  abbrev IsChosen : ℕ → Type 0
  IsChosen u = Chosen S cells (W (copies_of t b)).0 u

  -- it settles
  st : Settling S cells (W (copies_of t b)).0 (beside_w (copies_of t b)) r.write.0 r.value r.read.0
  st = settling t f b lb (epoch-holder t.creation t.epoch t.chunks e b (small t f b lb) lb)

  -- what is listed after was listed or is committed
  to : (u : ℕ) → Any (IsTs u) (by_change b t ++ h.listed) → Any (IsTs u) h.listed ⊎ IsChosen u
  to u z = elim (any_append (IsTs u) (by_change b t) h.listed z) [
    | inl y ↦ inr (commits_in t f b lb u (any_each _ (IsTs u)
        (commits (copies_of t b)) y))
    | inr y ↦ inl y
  ]

  -- and the way back
  from : (u : ℕ) → Any (IsTs u) h.listed ⊎ IsChosen u → Any (IsTs u) (by_change b t ++ h.listed)
  from u = elim [
    | inl y ↦ any_right (IsTs u) (by_change b t) h.listed y
    | inr y ↦ any_left (IsTs u) (by_change b t) h.listed (each_any _ (IsTs u) (commits (copies_of t b)) (commits_has t f b lb (epoch-holder t.creation t.epoch t.chunks e b (small t f b lb) lb) u y))
  ]

  -- a committed write has its attempt's value
  value : (u v : ℕ) → Any (IsIt u v) (by_change b t) → h.value u ≡ v
  value u v z =
      let y = any_each _ (IsIt u v) (commits (copies_of t b)) z in
      let q = any_at (λ (x : Timestamp). (x.0 ≡ u) × (written_with (copies_of t b) x ≡ v)) (commits (copies_of t b)) (record { 0 = 0 }) y in
      let x = get_or (commits (copies_of t b)) q.0 (record { 0 = 0 }) in
      let k = commits_in t f b lb x.0 (any_map _ (λ (z : Timestamp). z.0 ≡ x.0) (λ z p. p.0 ∙ sym q.2.0)
      (commits (copies_of t b)) y) in
      let w = written t f b lb (epoch-holder t.creation t.epoch t.chunks e b (small t f b lb) lb) x k in
      ap h.value (sym q.2.0) ∙ ((i.inv.cells w.0 w.2).waits x.0 _ w.1 w.3).vals ∙ q.2.1

  -- the changed table is good
  epoch-good : Good b (lists h (by_change b t)) (epoch_changed t)
  epoch-good = subst⁻¹ (λ (ep : ℕ). CInv S b (lists h (by_change b t)) ep (seats_of t) (part_of (epoch_changed t) b) t.places) grown (record {
    inv = recell S (book (lists h (by_change b t)) (suc t.epoch.0)) (flow S b h (seats_of t) t.places)
        (settled_cell r.write.0 r.value r.read.0) (λ c. cell_of (part_of (epoch_changed t) b c))
        (relist S (settled_book (book h t.epoch.0) IsChosen) (flow S b h (seats_of t) t.places)
        (settled_cell r.write.0 r.value r.read.0) (book (lists h (by_change b t)) t.epoch.0).L
        (settle S (book h t.epoch.0) (flow S b h (seats_of t) t.places) cells i.inv (W (copies_of t b)).0
        (beside_w (copies_of t b)) r.write.0 r.value r.read.0 st)
        to from)
        (λ c m. subst⁻¹ (λ (p : Part). Same (cell_of p) (settled_cell r.write.0 r.value r.read.0 c)) (changed-part c m)
        (record { wr = refl; rd = refl; val = refl; lost = refl; to = λ u x a z. z; from = λ u x a z. z; r = λ u z. z }))
        (λ c u z. absurd (subst (Any (IsR u)) (none_wait t c b (small t f b lb)) z));
    vals = λ u v z. elim (any_append (IsIt u v) (by_change b t) h.listed z) [ inl y ↦ value u v y | inr y ↦ i.vals u v y ];
    drawn = i.drawn;
    stamps = i.stamps;
    mine = i.mine;
    known = λ j. (let z = i.known j in omega arith);
    sane = changed-sane t i.sane;
  })
    where
      grown : t.epoch.0 + 1 ≡ suc t.epoch.0
      grown = omega arith

  -- the epoch change
  pub ev_epoch : Next b h t (by_change b t) Outcome.None (epoch_changed t)
  ev_epoch = record {
    hist = lists h (by_change b t);
    good = epoch-good;
    listed = refl;
    kept = λ u v z. z;
    done =
        λ j v q. absurd (none_done j b v q);
    began = λ u q. inl (q, refl);
  }

-- nothing waits, so nothing new is mentioned
pub epoch-less : (t : Table) → Less (epoch_changed t) t
unfolding settled_record
epoch-less t = record {
  ment = λ u d. elim [
    | inl z ↦ inl z
    | inr z ↦ elim z [
      | inl q ↦ inr (inl q)
      | inr q ↦
          absurd (subst (Any (AtTs u)) (none_wait t q.0 d q.1) q.2)
    ]
  ];
  clocks = λ j. omega arith;
  shape = λ s. shape-epoch (with_records t (records_by f)) (shape-records t s f
      (λ c b l m. rw (settled_at_lem t b c l) (go c b (c among set_of t.creation b)))) (renewed t.creation (next t.epoch) t.chunks) _;
}
  where
    f : ℕ → ℕ → Record
    f c b = (get_or (settled (copies_of t b)) c no_copy).held

    go : (c b : ℕ) (m : Bool) → length (cond m (settled_record (copies_of t b)) (emptied (record_of t c b))).waiting.entries ≡ 8
    go c b true = refl
    go c b false = refl
