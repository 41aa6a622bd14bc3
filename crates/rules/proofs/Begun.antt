-- Every run's table agrees with what its events and answers tell; the timestamps of its attempts are above 0 and differ
use Rattle.std.specs.Prelude.{None, Option, Some}
use Prim.Native.Nat.{ℕ, ◌+◌, ◌*◌, ◌≤◌, ◌<◌}
use mathlib.Core.Path.{◌≡◌, refl, sym, subst, subst⁻¹, ap, ◌∙◌}
use mathlib.Core.Logic.{◌⊎◌, inl, inr}
use mathlib.Core.Bool.{Bool, true, false, cond, not, ◌&&◌, ◌||◌, false≢true}
use mathlib.Core.List.{List, [], ◌∷◌, ◌++◌, append-nil, append_assoc}
use native.Mathlib.Omega.{arith}
use lib.ListN.{length, get_or, take, drop, length-set}
use lib.Dec.{eqb}
use lib.Seq.{get_or-set_same, get_or-set_other}
use borrow.Author.Tests.{lt-ltb, eqb-true, eqb-false, eq-eqb, ne_eqb}
use Rattle.rules.specs.Types.{Timestamp, Set, Creation, Action, Operation, Queue, Host, Message, Table, Event, Outcome, Answer}
use Rattle.rules.specs.Built.{operation_of}
use Rattle.rules.specs.Codes.{code_of}
use Rattle.rules.specs.Creation.{fresh_host, fresh}
use Rattle.rules.specs.Events.{EventKind, quietly, holders_of, read_rule, write_rule, start_rule, takes, kind_of, ranges, rule_of, rows, done, step}
use Rattle.rules.specs.Hosts.{operations_of, queue_of, front, has_current, intake_refusals, appended, opening_to, started, done_as, failed_as, goes_back, finish_outcome, ended, finished, with_queue, hears}
use Rattle.rules.specs.Limits.{host_limit, operation_limit, greatest_clock}
use Rattle.rules.specs.Messages.{header_of, sort_of, is_for_chunk}
use Rattle.rules.specs.Network.{free_places, removed}
use Rattle.rules.specs.Operands.{all_in_range}
use Rattle.rules.specs.Runs.{after, Told, tell, told, Taken, Begun, Account, Ledger, no_taken, nothing, with_account, taken_in, tried, attempt, is_none, ended_with, noted, ledger, begun, no_attempt, last_of, Agrees, distinct, tells_of}
use Rattle.rules.specs.Tables.{is_host, host_of, slot_of, with_places, with_host}
use Rattle.rules.specs.Timestamps.{stamp, never, ◌is◌, ◌above◌}
use Rattle.rules.specs.Words.{each, none, some, place, fold, numbers, filled}
use Rattle.rules.specs.Zero.{zero_operation, zero_host, no_host}
use Rattle.rules.proofs.Lists.{All, ◌&◌, end, and_true, three, walk, filled-take, set_all, each-length, each_number, numbers-length}
use Rattle.rules.proofs.Events.{by_kind, rows-granted}
use Rattle.rules.proofs.Messages.{hears-keeps}
use Rattle.rules.proofs.Formed.{one-to, Formed, formed, host-place, host_of_lem, host-facts, queue-facts, attempt-facts}
use Rattle.rules.proofs.Errors.{start_draws}
use Rattle.rules.proofs.Relies.{finish_current}

-- ---- lists

pub fold-append : {S A : Type 0} (f : S → A → S) (s : S) (k l : List A) → fold f s (k ++ l) ≡ fold f (fold f s k) l
unfolding fold
fold-append f s [] l = refl
fold-append f s (x ∷ k) l = fold-append f (f s x) k l

each_append : {A B : Type 0} (f : A → B) (k l : List A) → each f (k ++ l) ≡ each f k ++ each f l
unfolding each
each_append f [] l = refl
each_append f (x ∷ k) l = ap (λ r. f x ∷ r) (each_append f k l)

each-drop : {A B : Type 0} (f : A → B) (l : List A) → each f (drop 1 l) ≡ drop 1 (each f l)
unfolding each
each-drop f [] = refl
each-drop f (x ∷ l) = refl

each-front : {A B : Type 0} (f : A → B) (l : List A) (a : A) → get_or (each f l) 0 (f a) ≡ f (get_or l 0 a)
unfolding each
each-front f [] a = refl
each-front f (x ∷ l) a = refl

-- ---- a host alone

-- a host with the queue of up to 8 operations has these operations
queue_is : (h : Host) (l : List Operation) → h.queue ≡ queue_of l → h.queue.count ≤ operation_limit → operations_of h ≡ l
unfolding queue_of
queue_is h l e room =
    let n : length l ≤ operation_limit = subst (λ (q : Queue). q.count ≤ operation_limit) e room in
    ap (λ (q : Queue). take q.count q.operations) e ∙ filled-take zero_operation operation_limit l n

-- and the first of them in front
pub front_is : (h : Host) (l : List Operation) → h.queue ≡ queue_of l → front h ≡ get_or l 0 zero_operation
unfolding queue_of
front_is h l e = ap (λ (q : Queue). get_or (take q.count q.operations) 0 zero_operation) e ∙ go l
  where
    go : (l : List Operation) → get_or (take (length l) (filled operation_limit zero_operation l)) 0 zero_operation ≡ get_or l 0 zero_operation
    go [] = refl
    go (o ∷ l) = refl

-- in what the ledger tells, nothing changes
pub record Alike (x y : Host) : Type 0 where
  pub queue : y.queue ≡ x.queue
  pub timestamp : y.attempt.timestamp ≡ x.attempt.timestamp
  pub clock : y.clock ≡ x.clock

alike : (x : Host) → Alike x x
alike x = record { queue = refl; timestamp = refl; clock = refl }

-- a message at a host
hears-alike : (h : Host) (m : Message) → Alike h (hears h m)
hears-alike h m = let k = hears-keeps h m in record { queue = k.queue; timestamp = k.timestamp; clock = k.clock }

-- an account's host that is alike
agrees-alike : (host : ℕ) (x : Account) (last : Begun) (h k : Host) → Alike h k → Agrees host x last h → Agrees host x last k
agrees-alike host x last h k s a = record { queue = s.queue ∙ a.queue; timestamp = s.timestamp ∙ a.timestamp; current = a.current }

-- ---- what every run keeps

-- an attempt's timestamp was drawn by its host, from its clock
pub record Drawn (t : Table) (x : Begun) : Type 0 where
  pub clock : ℕ
  pub is_t : x.timestamp ≡ stamp clock x.host
  pub one : 1 ≤ clock
  pub past : clock ≤ (host_of t x.host).clock
  pub host : x.host < host_limit

all_map : {A : Type 0} (P Q : A → Type 0) → ((x : A) → P x → Q x) → (l : List A) → All P l → All Q l
all_map P Q f [] end = end
all_map P Q f (x ∷ l) (h & hs) = f x h & all_map P Q f l hs

all-each : {A B : Type 0} (f : A → B) (P : B → Type 0) (l : List A) → All (λ x. P (f x)) l → All P (each f l)
unfolding each
all-each f P [] end = end
all-each f P (x ∷ l) (h & hs) = h & all-each f P l hs

all_append : {A : Type 0} (P : A → Type 0) (l : List A) (x : A) → All P l → P x → All P (l ++ x ∷ [])
all_append P [] x end p = p & end
all_append P (y ∷ l) x (h & hs) p = h & all_append P l x hs p

pub record Kept (l : Ledger) (t : Table) : Type 0 where
  pub length : length t.hosts ≡ host_limit
  pub agree : (host : ℕ) → host < host_limit → Agrees host (l.accounts host) (last_of host l.begun) (host_of t host)
  pub drawn : All (Drawn t) l.begun
  pub distinct : distinct (each (λ x. x.timestamp) l.begun) ≡ true

-- ---- where the hosts are alike, all stays

pub record Same (t t' : Table) : Type 0 where
  pub length : length t'.hosts ≡ length t.hosts
  pub hosts : (h : ℕ) → Alike (host_of t h) (host_of t' h)

same : (t t' : Table) → t'.hosts ≡ t.hosts → Same t t'
same t t' e = record {
  length = ap length e;
  hosts = λ h. subst⁻¹ (λ (l : List Host). Alike (host_of t h) (get_or l h no_host)) e (alike (host_of t h));
}

same-host : (t : Table) (j : ℕ) (y : Host) → Alike (host_of t j) y → Same t (with_host t j y)
same-host t j y a = record {
  length = length-set t.hosts j y;
  hosts = set_all (λ i (z : Host). Alike (host_of t i) z) no_host t.hosts j y a (λ i. alike (host_of t i));
}

takes_same : (t : Table) (s : Option Message) → Same t (takes t s)
takes_same t None = same t t refl
takes_same t (Some m) =
    walk (Same t) (is_for_chunk (sort_of m)) _ _ (λ _. same t _ refl)
    (λ _. same-host t (header_of m).host _ (hears-alike (host_of t (header_of m).host) m))

still : (l : Ledger) (t t' : Table) → Same t t' → Kept l t → Kept l t'
still l t t' s i = record {
  length = s.length ∙ i.length;
  agree = λ h k. agrees-alike h _ _ (host_of t h) (host_of t' h) (s.hosts h) (i.agree h k);
  drawn = all_map (Drawn t) (Drawn t') (λ x d. record {
    clock = d.clock;
    is_t = d.is_t;
    one = d.one;
    past = omega (arith, d.past, (s.hosts x.host).clock);
    host = d.host;
  }) l.begun i.drawn;
  distinct = i.distinct;
}

-- ---- one host and its account change

-- the last of a list with one attempt more
last_more : (h : ℕ) (l : List Begun) (x : Begun) → last_of h (l ++ x ∷ []) ≡ cond (eqb x.host h) x (last_of h l)
unfolding last_of fold
last_more h l x = fold-append (λ last x. cond (eqb x.host h) x last) no_attempt l (x ∷ [])

module _ (l : Ledger) (t : Table) (i : Kept l t) (j : ℕ) (lj : j < host_limit) (y : Host) where
  host-now : (h : ℕ) → host_of (with_host t j y) h ≡ cond (eqb h j) y (host_of t h)
  host-now h = go (eqb h j) refl
    where
      go : (b : Bool) → eqb h j ≡ b → host_of (with_host t j y) h ≡ cond b y (host_of t h)
      go true e = subst⁻¹ (λ (n : ℕ). host_of (with_host t j y) n ≡ y) (eqb-true h j e)
          (get_or-set_same t.hosts j y no_host (omega (arith, i.length)))
      go false e = get_or-set_other t.hosts j h y no_host (eqb-false h j e)

  -- the others are as they were
  agree-now : (x : Account) (b : List Begun) → Agrees j x (last_of j b) y
      → ((h : ℕ) → (h ≡ j → ⊥) → last_of h b ≡ last_of h l.begun) → (h : ℕ) → h < host_limit
      → Agrees h (cond (eqb h j) x (l.accounts h)) (last_of h b) (host_of (with_host t j y) h)
  agree-now x b a others h k = subst⁻¹ (Agrees h (cond (eqb h j) x (l.accounts h)) (last_of h b)) (host-now h) (go (eqb h j) refl)
    where
      go : (c : Bool) → eqb h j ≡ c → Agrees h (cond c x (l.accounts h)) (last_of h b) (cond c y (host_of t h))
      go true e = subst⁻¹ (λ (n : ℕ). Agrees n x (last_of n b) y) (eqb-true h j e) a
      go false e = subst⁻¹ (λ (z : Begun). Agrees h (l.accounts h) z (host_of t h)) (others h (eqb-false h j e)) (i.agree h k)

  -- no clock falls
  drawn-now : (host_of t j).clock ≤ y.clock → All (Drawn (with_host t j y)) l.begun
  drawn-now up = all_map (Drawn t) (Drawn (with_host t j y)) (λ x d. record {
    clock = d.clock;
    is_t = d.is_t;
    one = d.one;
    past = omega (arith, d.past, set_all (λ n (z : Host). (host_of t n).clock ≤ z.clock) no_host t.hosts j y up (λ n. omega arith) x.host);
    host = d.host;
  }) l.begun i.drawn

  -- no attempt is begun
  unbegun : (x : Account) → Agrees j x (last_of j l.begun) y → y.clock ≡ (host_of t j).clock → Kept (with_account l j x) (with_host t j y)
  unbegun x a e = record {
    length = length-set t.hosts j y ∙ i.length;
    agree = agree-now x l.begun a (λ h _. refl);
    drawn = drawn-now (omega (arith, e));
    distinct = i.distinct;
  }

-- ---- the events of which the ledger tells

-- an outcome is none exactly where the operation goes back to the front
none_goes_back : (host : ℕ) (h : Host) → is_none (finish_outcome host h) ≡ goes_back h.attempt
unfolding finish_outcome
none_goes_back host h = go h.attempt.okay h.attempt.restart (front h).action
  where
    go : (okay restart : Bool) (a : Action)
        → is_none (cond okay (done_as host (front h) a h.attempt.result) (cond restart Outcome.None (failed_as host (front h) a)))
        ≡ (not okay && restart)
    go true restart Action.Read = refl
    go true restart (Action.Write v) = refl
    go false true a = refl
    go false false Action.Read = refl
    go false false (Action.Write v) = refl

-- what is distinct stays so with a timestamp above 0 that differs from all of it
distinct_more : (l : List Timestamp) (u : Timestamp) → distinct l ≡ true → u above never ≡ true → All (λ s. (s ≡ u → ⊥)) l
    → distinct (l ++ u ∷ []) ≡ true
unfolding distinct some
distinct_more [] u d p end = and_true _ _ (and_true _ _ p refl) refl
distinct_more (s ∷ l) u d p (n & ns) =
    let r = three (s above never) (none (λ v. v is s) l) (distinct l) d in
    and_true _ _ (and_true _ _ r.0 (others l r.1)) (distinct_more l u r.2 p ns)
  where
    others : (l : List Timestamp) → none (λ v. v is s) l ≡ true → none (λ v. v is s) (l ++ u ∷ []) ≡ true
    others [] h = rw (ne_eqb u.0 s.0 (λ e. n (ap {B = Timestamp} (λ (a : ℕ). record { 0 = a }) (sym e)))) refl
    others (v ∷ l) h = go (v is s) h (others l)
      where
        go : (b : Bool) → not (b || some (λ v. v is s) l) ≡ true
            → (not (some (λ v. v is s) l) ≡ true → not (some (λ v. v is s) (l ++ u ∷ [])) ≡ true)
            → not (b || some (λ v. v is s) (l ++ u ∷ [])) ≡ true
        go true h f = h
        go false h f = f h

module _ (l : Ledger) (t : Table) (f : Formed t) (i : Kept l t) (j : ℕ) (e : is_host t.creation j ≡ true) where
  abbrev x : Account
  x = l.accounts j

  abbrev h : Host
  h = host_of t j

  abbrev operations : List Operation
  operations = each (λ o. o.operation) x.queue

  inside : j < host_limit
  inside = host-place t.creation j e f.creation

  mine : Agrees j x (last_of j l.begun) h
  mine = i.agree j inside

  room : h.queue.count ≤ operation_limit
  room = (queue-facts t.creation h.queue (host-facts t.creation h (host_of_lem t f j e)).queue).count

  holds : operations_of h ≡ operations
  holds = queue_is h operations mine.queue room

  -- while it is at an attempt it has an operation
  busy : x.trying ≡ true → 0 < length x.queue
  unfolding queue_of
  busy g =
      let a = attempt-facts t.creation h.queue.count h.attempt (host-facts t.creation h (host_of_lem t f j e)).attempt
      (subst⁻¹ (λ (u : Timestamp). u above never ≡ true) mine.timestamp (rw g (mine.current g).0)) in
      omega (arith, a.one, ap (λ (q : Queue). q.count) mine.queue, each-length (λ o. o.operation) x.queue)

  -- 1 read, 2 write
  took : (o : Operation) → code_of (intake_refusals h) ≡ 0 → Kept (with_account l j (taken_in x o)) (with_host t j (appended h o))
  unfolding appended each
  took o c = unbegun l t i j inside (appended h o) (taken_in x o) (record {
    queue = ap queue_of (ap (λ (m : List Operation). m ++ o ∷ []) holds ∙ sym (each_append (λ o. o.operation) x.queue _));
    timestamp = mine.timestamp;
    current = λ g. ((mine.current g).0, (mine.current g).1, (mine.current g).2 ∙ go x.queue _ (busy g));
  }) refl
    where
      go : (q : List Taken) (z : Taken) → 0 < length q → get_or q 0 no_taken ≡ get_or (q ++ z ∷ []) 0 no_taken
      go [] z k = absurd (omega arith)
      go (a ∷ q) z k = refl

  -- 6 finish
  ends : (o : Outcome) → is_none o ≡ goes_back h.attempt → Kept (with_account l j (ended_with x o)) (with_host t j (finished h))
  unfolding finished
  ends o back = unbegun l t i j inside (finished h) (ended_with x o) (go (is_none o) back)
      (walk (λ (y : Host). y.clock ≡ h.clock) (goes_back h.attempt) _ _ (λ _. refl) (λ _. refl))
    where
      go : (b : Bool) → b ≡ goes_back h.attempt → Agrees j (record { count = x.count; queue = cond b x.queue (drop 1 x.queue); trying = false })
          (last_of j l.begun) (cond (goes_back h.attempt) (ended h) (with_queue (ended h) (queue_of (drop 1 (operations_of h)))))
      go true k = rw (sym k) (record { queue = mine.queue; timestamp = refl; current = λ g. absurd (false≢true g) })
      go false k = rw (sym k) (record {
        queue = ap queue_of (ap (drop 1) holds ∙ sym (each-drop (λ o. o.operation) x.queue));
        timestamp = refl;
        current = λ g. absurd (false≢true g);
      })

  -- 3 start
  module _ (clock : ℕ) (to : Set) (one : 1 ≤ clock) (more : h.clock < clock) where
    abbrev now : Begun
    now = attempt (stamp clock j) j x

    abbrev y : Host
    y = started h (stamp clock j) clock to

    above_0 : stamp clock j above never ≡ true
    above_0 = lt-ltb 0 (clock * 8 + j) (omega arith)

    -- it is new
    new : (z : Begun) → Drawn t z → z.timestamp ≡ stamp clock j → ⊥
    new z d q =
        let n = ap (λ (u : Timestamp). u.0) (sym d.is_t ∙ q) in
        let own : z.host ≡ j = omega (arith, n, d.host, inside) in
        omega (arith, n, subst (λ (k : ℕ). d.clock ≤ (host_of t k).clock) own d.past)

    begins : Kept (record { accounts = (with_account l j (tried x)).accounts; begun = l.begun ++ now ∷ [] }) (with_host t j y)
    unfolding each
    begins = record {
      length = length-set t.hosts j y ∙ i.length;
      agree = agree-now l t i j inside y (tried x) (l.begun ++ now ∷ [])
          (subst⁻¹ (λ (z : Begun). Agrees j (tried x) z y) (last_more j l.begun now ∙ rw (eq-eqb j j refl) refl)
          (record { queue = mine.queue; timestamp = refl; current = λ _. (above_0, refl, refl) }))
          (λ k n. last_more k l.begun now ∙ rw (ne_eqb j k (λ q. n (sym q))) refl);
      drawn = all_append (Drawn (with_host t j y)) l.begun now (drawn-now l t i j inside y (omega arith)) (record {
        clock = clock;
        is_t = refl;
        one = one;
        past = omega (arith, ap (λ (y : Host). y.clock) (get_or-set_same t.hosts j y no_host (omega (arith, inside, i.length))));
        host = inside;
      });
      distinct = subst⁻¹ (λ (m : List Timestamp). distinct m ≡ true) (each_append (λ z. z.timestamp) l.begun (now ∷ []))
          (distinct_more (each (λ z. z.timestamp) l.begun) (stamp clock j) i.distinct above_0
          (all-each (λ z. z.timestamp) (λ s. s ≡ stamp clock j → ⊥) l.begun
          (all_map (Drawn t) (λ z. z.timestamp ≡ stamp clock j → ⊥) new l.begun i.drawn)));
    }

-- ---- every event

module _ (l : Ledger) (t : Table) (i : Kept l t) (e : Event) where
  -- a kind of event where it is granted
  abbrev Grants : EventKind → Type 0
  Grants k =
      let x = k.rule t e.a e.b e.c in
      Formed t → all_in_range t.creation k.operands e.a e.b e.c ≡ true → code_of x.refusals ≡ 0
      → Kept (noted l (tell e (done x.effect))) x.effect.table

  -- the hosts are as they were
  as_were : (t' : Table) → t'.hosts ≡ t.hosts → Kept l t'
  as_were t' q = still l t t' (same t t' q) i

  -- what stands in the host's row is what the event handed in: its operation, and its clock x 8 + host
  reads : e.kind ≡ 1 → Grants (kind_of 1)
  unfolding kind_of place
  reads k f r c =
      let o = operation_of e.b Action.Read in
      let row : (read_rule t e.a e.b e.c).effect.table.hosts ≡ (with_host t e.a (appended (host_of t e.a) o)).hosts = refl in
      rw k (still _ _ _ (same _ _ row) (took l t f i e.a (three _ _ _ r).0 o c))

  writes : e.kind ≡ 2 → Grants (kind_of 2)
  unfolding kind_of place
  writes k f r c =
      let o = operation_of e.b (Action.Write e.c) in
      let row : (write_rule t e.a e.b e.c).effect.table.hosts ≡ (with_host t e.a (appended (host_of t e.a) o)).hosts = refl in
      rw k (still _ _ _ (same _ _ row) (took l t f i e.a (three _ _ _ r).0 o c))

  starts : e.kind ≡ 3 → Grants (kind_of 3)
  unfolding kind_of place
  starts k f r c =
      let h = host_of t e.a in
      let to = opening_to (front h).action e.c (holders_of t.creation h) in
      let row : (start_rule t e.a e.b e.c).effect.table.hosts
      ≡ (with_host t e.a (started h (stamp e.b e.a) e.b to)).hosts = refl in
      let q = three _ _ _ r in
      let drawn = start_draws h e.a e.b e.c (holders_of t.creation h) (free_places t.places) _ c in
      rw k (still _ _ _ (same _ _ row)
      (begins l t f i e.a q.0 e.b to (one-to greatest_clock e.b q.1).0 (omega (arith, drawn.0))))

  finishes : e.kind ≡ 6 → Grants (kind_of 6)
  unfolding kind_of place
  finishes k f r c =
      let h = host_of t e.a in
      rw k (still _ (with_host t e.a (finished h)) _ (same _ _ refl)
      (ends l t f i e.a (three _ _ _ r).0 (finish_outcome e.a h) (none_goes_back e.a h)))

  delivers : e.kind ≡ 4 → Grants (kind_of 4)
  unfolding kind_of place
  delivers k f r c =
      let left = with_places t (removed t.places e.a) in
      rw k (still l left _ (takes_same left (slot_of t.places e.a)) (as_were left refl))

  -- the ledger has nothing of an event of kind n
  unnoted : (n : ℕ) (t' : Table) → e.kind ≡ n → noted l (tell (record { kind = n; a = e.a; b = e.b; c = e.c }) (done (quietly t'))) ≡ l
      → Kept l t' → Kept (noted l (tell e (done (quietly t')))) t'
  unnoted n t' k q i = rw (k, q) i

  -- timeout, refresh, stop: the host's queue, timestamp and clock stay
  at_one : (y : Host) → y.queue ≡ (host_of t e.a).queue → y.attempt.timestamp ≡ (host_of t e.a).attempt.timestamp → y.clock ≡ (host_of t e.a).clock
      → Kept l (with_host t e.a y)
  at_one y q s c = still l t (with_host t e.a y) (same-host t e.a y (record { queue = q; timestamp = s; clock = c })) i

  granted : Grants (kind_of e.kind)
  unfolding kind_of place
  granted =
      by_kind Grants e.kind (
      reads
      & writes
      & starts
      & delivers
      & (λ k _ _ _. unnoted 5 _ k refl (as_were _ refl))
      & finishes
      & (λ k _ _ _. unnoted 7 _ k refl (at_one _ refl refl refl))
      & (λ k _ _ _. unnoted 8 _ k refl (at_one _ refl refl refl))
      & (λ k _ _ _. unnoted 9 _ k refl (as_were _ refl))
      & (λ k _ _ _. unnoted 10 _ k refl (at_one _ refl refl refl))
      & (λ k _ _ _. unnoted 11 _ k refl (as_were _ refl))
      & (λ k _ _ _. unnoted 12 _ k refl (as_were _ refl))
      & (λ k _ _ _. unnoted 13 _ k refl (as_were _ refl))
      & (λ k _ _ _. unnoted 14 _ k refl (as_were _ refl))
      & (λ k _ _ _. unnoted 15 _ k refl (as_were _ refl))
      & (λ k _ _ _. unnoted 16 _ k refl (as_were _ refl))
      & end) (λ _ r _. absurd (false≢true r))

  step_kept : Kept (noted l (tell e (step t e))) (step t e).table
  unfolding step ranges rule_of
  step_kept =
      walk (λ (a : Answer). Kept (noted l (tell e a)) a.table) (eqb (code_of (rows t e)) 0) _ _
      (λ z. let own = rows-granted t e (eqb-true (code_of (rows t e)) 0 z) in granted (formed t own.0) own.1 own.2)
      (λ z. rw z i)

-- ---- an outcome is a finish's

pub record Finish (t : Table) (e : Event) (a : Answer) : Type 0 where
  pub formed : Formed t
  pub kind : e.kind ≡ 6
  pub code : a.code ≡ 0
  pub host : is_host t.creation e.a ≡ true
  pub current : has_current (host_of t e.a) ≡ true
  pub outcome : a.outcome ≡ finish_outcome e.a (host_of t e.a)

module _ (t : Table) (e : Event) where
  abbrev Tells : EventKind → Type 0
  Tells k =
      let x = k.rule t e.a e.b e.c in
      Formed t → all_in_range t.creation k.operands e.a e.b e.c ≡ true → code_of x.refusals ≡ 0
      → (x.effect.outcome ≡ Outcome.None) ⊎ Finish t e (done x.effect)

  tells : Tells (kind_of e.kind)
  unfolding kind_of place
  tells =
      by_kind Tells e.kind (
      (λ _ _ _ _. inl refl)
      & (λ _ _ _ _. inl refl)
      & (λ _ _ _ _. inl refl)
      & (λ _ _ _ _. inl refl)
      & (λ _ _ _ _. inl refl)
      & (λ k f r c. inr (record {
        formed = f;
        kind = k;
        code = refl;
        host = (three _ _ _ r).0;
        current = finish_current (host_of t e.a) (free_places t.places) _ c;
        outcome = refl;
      }))
      & (λ _ _ _ _. inl refl)
      & (λ _ _ _ _. inl refl)
      & (λ _ _ _ _. inl refl)
      & (λ _ _ _ _. inl refl)
      & (λ _ _ _ _. inl refl)
      & (λ _ _ _ _. inl refl)
      & (λ _ _ _ _. inl refl)
      & (λ _ _ _ _. inl refl)
      & (λ _ _ _ _. inl refl)
      & (λ _ _ _ _. inl refl)
      & end) (λ _ _ _. inl refl)

  pub none_or_finish : ((step t e).outcome ≡ Outcome.None) ⊎ Finish t e (step t e)
  unfolding step ranges rule_of
  none_or_finish =
      walk (λ (a : Answer). (a.outcome ≡ Outcome.None) ⊎ Finish t e a) (eqb (code_of (rows t e)) 0) _ _
      (λ z. let own = rows-granted t e (eqb-true (code_of (rows t e)) 0 z) in tells (formed t own.0) own.1 own.2)
      (λ _. inl refl)

-- ---- a host that is at an attempt is at its last one

pub record Current (host : ℕ) (last : Begun) (h : Host) : Type 0 where
  pub timestamp : h.attempt.timestamp ≡ last.timestamp
  pub own : last.host ≡ host
  pub front : front h ≡ last.taken.operation

pub current_is : (host : ℕ) (x : Account) (last : Begun) (h : Host) → Agrees host x last h → has_current h ≡ true → Current host last h
current_is host x last h a p = go x.trying refl
  where
    go : (b : Bool) → x.trying ≡ b → Current host last h
    go true g = record {
      timestamp = a.timestamp ∙ rw g refl;
      own = (a.current g).1;
      front = front_is h (each (λ o. o.operation) x.queue) a.queue ∙ each-front (λ o. o.operation) x.queue no_taken
          ∙ ap (λ (o : Taken). o.operation) (sym (a.current g).2);
    }
    go false g = let z : h.attempt.timestamp ≡ never = a.timestamp ∙ rw g refl in absurd (false≢true (rw z at p))

-- so a finish's outcome tells of it
finish_tells : (host : ℕ) (last : Begun) (h : Host) → Current host last h → tells_of last (finish_outcome host h) ≡ true
unfolding finish_outcome
finish_tells host last h c = go h.attempt.okay h.attempt.restart (front h).action (ap (λ (o : Operation). o.action) (sym c.front))
  where
    own : eqb last.host host ≡ true
    own = eq-eqb last.host host c.own

    there : eqb last.taken.operation.block (front h).block ≡ true
    there = eq-eqb last.taken.operation.block (front h).block (ap (λ (o : Operation). o.block) (sym c.front))

    go : (okay restart : Bool) (a : Action) → last.taken.operation.action ≡ a
        → tells_of last (cond okay (done_as host (front h) a h.attempt.result) (cond restart Outcome.None (failed_as host (front h) a))) ≡ true
    go true restart Action.Read e = rw (own, there, e) refl
    go true restart (Action.Write v) e = rw (own, there, e) refl
    go false true a e = refl
    go false false Action.Read e = rw (own, there, e) refl
    go false false (Action.Write v) e = rw (own, there, e) refl

-- ---- one list of events after another

pub after-append : (t : Table) (es fs : List Event) → after t (es ++ fs) ≡ after (after t es) fs
unfolding after
after-append t [] fs = refl
after-append t (e ∷ es) fs = after-append (step t e).table es fs

told-append : (t : Table) (es fs : List Event) → told t (es ++ fs) ≡ told t es ++ told (after t es) fs
unfolding after told
told-append t [] fs = refl
told-append t (e ∷ es) fs = ap (λ (m : List Told). tell e (step t e) ∷ m) (told-append (step t e).table es fs)

-- what was begun stays so
abbrev More : List Begun → Ledger → Type 0
More b l = (more : List Begun) × (l.begun ≡ b ++ more)

noted_more : (l : Ledger) (m : Told) → More l.begun (noted l m)
noted_more l m =
    let same : (more : List Begun) × (l.begun ≡ l.begun ++ more) = ([], sym (append-nil l.begun)) in
    walk (More l.begun) (not (eqb m.code 0)) _ _ (λ _. same)
    (λ _. walk (More l.begun) (eqb m.event.kind 1) _ _ (λ _. same)
    (λ _. walk (More l.begun) (eqb m.event.kind 2) _ _ (λ _. same)
    (λ _. walk (More l.begun) (eqb m.event.kind 3) _ _ (λ _. (_ ∷ [], refl))
    (λ _. walk (More l.begun) (eqb m.event.kind 6) _ _ (λ _. same) (λ _. same)))))

fold_more : (l : Ledger) (ms : List Told) → More l.begun (fold noted l ms)
unfolding fold
fold_more l [] = ([], sym (append-nil l.begun))
fold_more l (m ∷ ms) =
    let now = noted_more l m in
    let rest = fold_more (noted l m) ms in
    (now.0 ++ rest.0, rest.1 ∙ ap (λ (b : List Begun). b ++ rest.0) now.1 ∙ append_assoc l.begun now.0 rest.0)

pub begun_more : (t : Table) (es fs : List Event) → (more : List Begun) × (begun (told t (es ++ fs)) ≡ begun (told t es) ++ more)
unfolding ledger
begun_more t es fs =
    let rest = fold_more (fold noted nothing (told t es)) (told (after t es) fs) in (
      rest.0,
      ap (λ (m : List Told). (fold noted nothing m).begun) (told-append t es fs)
          ∙ ap (λ (l : Ledger). l.begun) (fold-append noted nothing (told t es) (told (after t es) fs)) ∙ rest.1,
    )

-- ---- every run from a fresh store

fresh_kept : (k : Creation) → Kept nothing (fresh k)
unfolding fresh last_of fold each distinct queue_of
fresh_kept k = record {
  length = each-length (λ h. cond (is_host k h) fresh_host zero_host) (numbers host_limit) ∙ numbers-length host_limit;
  agree = λ h m. subst⁻¹ (Agrees h (nothing.accounts h) no_attempt) (each_number (λ h. cond (is_host k h) fresh_host zero_host) host_limit h no_host m)
      (go h (is_host k h));
  drawn = end;
  distinct = refl;
}
  where
    go : (h : ℕ) (b : Bool) → Agrees h (nothing.accounts h) no_attempt (cond b fresh_host zero_host)
    go h true = record { queue = refl; timestamp = refl; current = λ g. absurd (false≢true g) }
    go h false = record { queue = refl; timestamp = refl; current = λ g. absurd (false≢true g) }

after_kept : (es : List Event) (l : Ledger) (t : Table) → Kept l t → Kept (fold noted l (told t es)) (after t es)
unfolding after told fold
after_kept [] l t i = i
after_kept (e ∷ es) l t i = after_kept es (noted l (tell e (step t e))) (step t e).table (step_kept l t i e)

module _ (k : Creation) (es : List Event) where
  abbrev t : Table
  t = after (fresh k) es

  abbrev l : Ledger
  l = ledger (told (fresh k) es)

  run-kept : Kept l t
  unfolding ledger
  run-kept = after_kept es nothing (fresh k) (fresh_kept k)

  -- every host of every run's table agrees with what the events and their answers tell
  pub agrees : (host : ℕ) → host < host_limit → Agrees host (l.accounts host) (last_of host l.begun) (host_of t host)
  agrees = run-kept.agree

  -- the timestamps of all attempts, of all hosts and blocks, are above 0 and differ
  pub all-distinct : distinct (each (λ x. x.timestamp) l.begun) ≡ true
  all-distinct = run-kept.distinct

  -- an outcome tells of the last attempt of the host that the event is about
  pub tells_of_last : (e : Event) → tells_of (last_of e.a l.begun) (step t e).outcome ≡ true
  tells_of_last e = elim (none_or_finish t e) [
    | inl q ↦ rw q refl
    | inr q ↦ (let m = host-place t.creation e.a q.host q.formed.creation in
        rw q.outcome (finish_tells e.a (last_of e.a l.begun) (host_of t e.a)
        (current_is e.a (l.accounts e.a) (last_of e.a l.begun) (host_of t e.a) (agrees e.a m) q.current)))
  ]
