-- Every event, granted or refused, keeps a table good
use Rattle.std.specs.Prelude.{Option, Some}
use Prim.Native.Nat.{ℕ}
use mathlib.Core.Path.{◌≡◌, refl, sym, subst⁻¹, ◌∙◌, ap}
use mathlib.Core.Bool.{true, false, false≢true}
use mathlib.Core.List.{List, []}
use native.Mathlib.Omega.{arith}
use lib.ListN.{length-take}
use lib.Dec.{eqb}
use borrow.Author.Tests.{ltb-true, eqb-true}
use Rattle.one_copy.specs.Types.{Action, Message, Table, Event, Outcome, Answer}
use Rattle.one_copy.specs.Listed.{Write, by_host, by_change, committed_at}
use Rattle.rules.specs.Built.{operation_of}
use Rattle.rules.specs.Codes.{code_of}
use Rattle.rules.specs.Events.{Rule, EventKind, quietly, done, refused, holders_of, start_rule, finish_rule, epoch_rule, kind_of, ranges, rule_of, rows, step, takes, epoch_changed, epoch_refusals}
use Rattle.rules.specs.Hosts.{front, opening_to, closing_to}
use Rattle.rules.specs.Limits.{place_limit}
use Rattle.rules.specs.Messages.{sort_of, is_for_chunk}
use Rattle.rules.specs.Network.{free_places, how_many, removed}
use Rattle.rules.specs.Operands.{all_in_range}
use Rattle.rules.specs.Tables.{is_host, is_block, host_of, chunk_of, record_of, slot_of, with_places}
use Rattle.rules.specs.Timestamps.{stamp}
use Rattle.rules.specs.Words.{place}
use Rattle.rules.proofs.Events.{by_kind, rows-granted, step-granted, step-code}
use Rattle.rules.proofs.Formed.{Formed, formed, chunk-place, block-place, waiting_of}
use Rattle.rules.proofs.Lists.{◌&◌, end, three, walk}
use Rattle.rules.proofs.Relies.{intake_place, run-head, place_message}
use Rattle.one_copy.proofs.Tests.{at}
use Rattle.one_copy.proofs.View.{Hist}
use Rattle.one_copy.proofs.Shapes.{Shape}
use Rattle.one_copy.proofs.Homes.{Homes, Less, less-chunk, still}
use Rattle.one_copy.proofs.EvHomes.{timeout_less, refresh_less, stop_less, intake_less, finish_less, start_home, start_shape, run-less, drop-less, deliver-less, fail-less}
use Rattle.one_copy.proofs.Good.{Good, Next, unnoted}
use Rattle.one_copy.proofs.EvHost.{ev_intake, ev_timeout, ev_refresh, ev_stop, ev_start, ev_finish}
use Rattle.one_copy.proofs.EvChunk.{ev_run, ev_recover, ev_take, ev_give, ev_overdue, ev_fail}
use Rattle.one_copy.proofs.EvEpoch.{ev_epoch, epoch-less}
use Rattle.one_copy.proofs.EvNet.{ev_deliver, ev_drop}

-- a good table: its history, the block of each timestamp, its shape
pub record Whole (b : ℕ) (h : Hist) (blk : ℕ → ℕ) (t : Table) : Type 0 where
  pub good : Good b h t
  pub homes : Homes blk t
  pub shape : Shape t

-- what an event's answer leaves
pub record Stepped (b : ℕ) (h : Hist) (t : Table) (e : Event) (a : Answer) : Type 0 where
  pub next : Next b h t (committed_at b t e a) a.outcome a.table
  pub blk : ℕ → ℕ
  pub homes : Homes blk a.table
  pub shape : Shape a.table
  pub creation : a.table.creation ≡ t.creation

-- a message that is taken leaves the creation as it is
takes-creation : (t : Table) (m : Message) → (takes t (Some m)).creation ≡ t.creation
takes-creation t m = walk (λ (x : Table). x.creation ≡ t.creation) (is_for_chunk (sort_of m)) _ _ (λ _. refl) (λ _. refl)

module _ (b : ℕ) (h : Hist) (blk : ℕ → ℕ) (t : Table) (lb : is_block t.creation b ≡ true) (i : Whole b h blk t) (e : Event) where
  -- ---- what is committed

  -- a refused event commits nothing
  refused_none : (k : ℕ) → eqb k 0 ≡ false → committed_at b t e (refused t k) ≡ []
  refused_none k n = rw n refl

  -- ---- an answer

  -- a granted event that commits ws
  relist : (ws : List Write) (o : Outcome) (t' : Table) → committed_at b t e (record { table = t'; code = 0; outcome = o }) ≡ ws
      → Next b h t ws o t' → Less t' t → t'.creation ≡ t.creation → Stepped b h t e (record { table = t'; code = 0; outcome = o })
  relist ws o t' l n le cr = record {
    next = subst⁻¹ (λ (ws : List Write). Next b h t ws o t') l n;
    blk = blk;
    homes = still blk t t' i.homes le;
    shape = le.shape i.shape;
    creation = cr;
  }

  -- an event that commits nothing, without an outcome
  plain : (t' : Table) → committed_at b t e (done (quietly t')) ≡ [] → Next b h t [] Outcome.None t' → Less t' t
      → t'.creation ≡ t.creation → Stepped b h t e (done (quietly t'))
  plain t' = relist [] Outcome.None t'

  -- a refused event
  refuses : (k : ℕ) → eqb k 0 ≡ false → Stepped b h t e (refused t k)
  refuses k n = record {
    next = subst⁻¹ (λ (ws : List Write). Next b h t ws Outcome.None t) (refused_none k n) (unnoted b h t t i.good);
    blk = blk;
    homes = i.homes;
    shape = i.shape;
    creation = refl;
  }

  -- a kind of event where it is granted
  abbrev Grants : EventKind → Type 0
  Grants k =
      let x = k.rule t e.a e.b e.c in
      Formed t → all_in_range t.creation k.operands e.a e.b e.c ≡ true → code_of x.refusals ≡ 0 → Stepped b h t e (done x.effect)

  -- 1 read
  reads : e.kind ≡ 1 → Grants (kind_of 1)
  unfolding kind_of place
  reads k f r x =
      let j = e.a in
      let d = e.b in
      let lj = (three _ _ _ r).0 in
      let o = operation_of d Action.Read in
      plain _ (rw k refl) (ev_intake b h t f i.shape lb i.good j lj o (intake_place (host_of t j) x))
      (intake_less t f j lj i.shape o (intake_place (host_of t j) x)) refl

  -- 2 write
  writes : e.kind ≡ 2 → Grants (kind_of 2)
  unfolding kind_of place
  writes k f r x =
      let j = e.a in
      let d = e.b in
      let v = e.c in
      let lj = (three (is_host t.creation j) (is_block t.creation d) true r).0 in
      let o = operation_of d (Action.Write v) in
      plain _ (rw k refl) (ev_intake b h t f i.shape lb i.good j lj o (intake_place (host_of t j) x))
      (intake_less t f j lj i.shape o (intake_place (host_of t j) x)) refl

  -- 3 start
  starts : e.kind ≡ 3 → Grants (kind_of 3)
  unfolding kind_of place
  starts k f r x =
      let j = e.a in
      let clock = e.b in
      let copy = e.c in
      let q = three _ _ _ r in
      let rule = start_rule t j clock copy in
      let to = opening_to (front (host_of t j)).action copy (holders_of t.creation (host_of t j)) in
      record {
        next = subst⁻¹ (λ (ws : List Write). Next b h t ws Outcome.None rule.effect.table) (rw k refl)
            (ev_start b h t f i.shape lb i.good j q.0 clock copy q.2 (free_places t.places) (how_many to) x);
        blk = at (stamp clock j).0 (front (host_of t j)).block blk;
        homes = start_home t f j q.0 blk i.shape i.homes clock copy (free_places t.places) (how_many to) x;
        shape = start_shape t f j q.0 i.shape (stamp clock j) clock to rule.effect.table.places;
        creation = refl;
      }

  -- 4 deliver
  delivers : e.kind ≡ 4 → Grants (kind_of 4)
  unfolding kind_of place
  delivers k f r x =
      let p = e.a in
      let l = ltb-true p place_limit (three _ _ _ r).0 in
      let m = place_message (slot_of t.places p) x in
      subst⁻¹ (λ (s : Option Message). Stepped b h t e (done (quietly (takes (with_places t (removed t.places p)) s)))) m.1
      (plain _ (rw k refl) (ev_deliver b h t f i.shape lb i.good p l blk i.homes m.0 m.1)
      (deliver-less t f p l m.0 m.1) (takes-creation (with_places t (removed t.places p)) m.0))

  -- 5 drop
  drops : e.kind ≡ 5 → Grants (kind_of 5)
  unfolding kind_of place
  drops k f r x =
      let p = e.a in
      let l = ltb-true p place_limit (three _ _ _ r).0 in
      plain _ (rw k refl) (ev_drop b h t f i.shape lb i.good p l) (drop-less t f p l) refl

  -- 6 finish
  finishes : e.kind ≡ 6 → Grants (kind_of 6)
  unfolding kind_of place
  finishes k f r x =
      let j = e.a in
      let c = e.b in
      let d = e.c in
      let lj = (three _ _ _ r).0 in
      let rule = finish_rule t j c d in
      let n = how_many (closing_to (front (host_of t j)).action (holders_of t.creation (host_of t j))) in
      relist (by_host b (host_of t j)) rule.effect.outcome rule.effect.table (rw k refl)
      (ev_finish b h t f i.shape lb i.good j lj (free_places t.places) n x)
      (finish_less t f j lj i.shape (free_places t.places) n x) refl

  -- 7 timeout
  times_out_lem : e.kind ≡ 7 → Grants (kind_of 7)
  unfolding kind_of place
  times_out_lem k f r x =
      let j = e.a in
      let lj = (three _ _ _ r).0 in plain _ (rw k refl) (ev_timeout b h t f i.shape lb i.good j lj)
      (timeout_less t f j lj) refl

  -- 8 refresh
  refreshes : e.kind ≡ 8 → Grants (kind_of 8)
  unfolding kind_of place
  refreshes k f r x =
      let j = e.a in
      let lj = (three _ _ _ r).0 in plain _ (rw k refl) (ev_refresh b h t f i.shape lb i.good j lj)
      (refresh_less t f j lj) refl

  -- 9 run
  runs : e.kind ≡ 9 → Grants (kind_of 9)
  unfolding kind_of place
  runs k f r y =
      let c = e.a in
      let d = e.b in
      let q = three _ _ _ r in
      let lc = chunk-place t.creation c q.0 f.creation in
      let ld = block-place t.creation d q.1 f.creation in
      let w = (record_of t c d).waiting in
      plain _ (rw k refl) (ev_run b h t f i.shape lb i.good c q.0 d q.1 (free_places t.places) y)
      (run-less t f c d lc ld (omega (
        arith,
        run-head (chunk_of t c).state w
            (free_places t.places) y,
        (waiting_of t f c d lc ld).count,
        i.shape.entries c d lc ld,
        length-take w.count
            w.entries,
      ))) refl

  -- 10 stop
  stops : e.kind ≡ 10 → Grants (kind_of 10)
  unfolding kind_of place
  stops k f r x =
      let j = e.a in
      let lj = (three _ _ _ r).0 in plain _ (rw k refl) (ev_stop b h t f i.shape lb i.good j lj)
      (stop_less t f j lj) refl

  -- 11 fail
  fails : e.kind ≡ 11 → Grants (kind_of 11)
  unfolding kind_of place
  fails k f r x =
      let c = e.a in
      plain _ (rw k refl) (ev_fail b h t f i.shape lb i.good c (three _ _ _ r).0) (fail-less t c) refl

  -- 12 recover
  recovers : e.kind ≡ 12 → Grants (kind_of 12)
  unfolding kind_of place
  recovers k f r x =
      let c = e.a in
      plain _ (rw k refl) (ev_recover b h t f i.shape lb i.good c (three _ _ _ r).0) (less-chunk t c _) refl

  -- 13 take lease
  leases_taken : e.kind ≡ 13 → Grants (kind_of 13)
  unfolding kind_of place
  leases_taken k f r x =
      let c = e.a in
      plain _ (rw k refl) (ev_take b h t f i.shape lb i.good c (three _ _ _ r).0) (less-chunk t c _) refl

  -- 14 give lease
  leases_given : e.kind ≡ 14 → Grants (kind_of 14)
  unfolding kind_of place
  leases_given k f r x =
      let c = e.a in
      plain _ (rw k refl) (ev_give b h t f i.shape lb i.good c (three _ _ _ r).0 x) (less-chunk t c _) refl

  -- 15 epoch change
  changes : e.kind ≡ 15 → Grants (kind_of 15)
  unfolding kind_of place
  changes k f r q =
      relist (by_change b t) Outcome.None (epoch_changed t) (rw k refl)
      (ev_epoch b h t f lb i.good q) (epoch-less t) refl

  -- 16 overdue
  overdues : e.kind ≡ 16 → Grants (kind_of 16)
  unfolding kind_of place
  overdues k f r x =
      let c = e.a in
      let d = e.b in
      let q = three _ _ _ r in
      plain _ (rw k refl) (ev_overdue b h t f i.shape lb i.good c q.0 d) (less-chunk t c _) refl

  -- every event
  granted : Grants (kind_of e.kind)
  unfolding kind_of place
  granted =
      by_kind Grants e.kind (
      reads
      & writes
      & starts
      & delivers
      & drops
      & finishes
      & times_out_lem
      & refreshes
      & runs
      & stops
      & fails
      & recovers
      & leases_taken
      & leases_given
      & changes
      & overdues
      & end) (λ _ r _. absurd (false≢true r))

  pub step_kept : Stepped b h t e (step t e)
  unfolding step ranges rule_of
  step_kept =
      walk (Stepped b h t e) (eqb (code_of (rows t e)) 0) _ _
      (λ z. let own = rows-granted t e (eqb-true (code_of (rows t e)) 0 z) in granted (formed t own.0) own.1 own.2)
      (λ z. refuses (code_of (rows t e)) z)

-- ---- a granted epoch change, read back from its answer

pub record Changed (t t' : Table) : Type 0 where
  pub formed : Formed t
  pub refusals : code_of (epoch_refusals t.creation t.epoch t.chunks) ≡ 0
  pub table : t' ≡ epoch_changed t

-- what its code says
pub changed : (t : Table) (e : Event) → e.kind ≡ 15 → (step t e).code ≡ 0 → Changed t (step t e).table
unfolding rule_of kind_of place
changed t e h g =
    let z : code_of (rows t e) ≡ 0 = sym (step-code t e) ∙ g in
    let k : rule_of t e ≡ epoch_rule t e.a e.b e.c = rw h refl in
    let own = rows-granted t e z in
    record {
      formed = formed t own.0;
      refusals = rw k at own.2;
      table = ap (λ (a : Answer). a.table) (step-granted t e z) ∙ ap (λ (r : Rule). r.effect.table) k;
    }
