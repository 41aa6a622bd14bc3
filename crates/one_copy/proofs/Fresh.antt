-- The fresh store is good
use Prim.Native.Nat.{ℕ, zero, suc, ◌+◌, ◌*◌, ◌≤◌}
use mathlib.Core.Path.{◌≡◌, refl, subst⁻¹}
use mathlib.Core.Logic.{inl, inr}
use mathlib.Core.Bool.{Bool, true, false, cond}
use mathlib.Core.List.{[]}
use native.Mathlib.Omega.{arith}
use lib.ListN.{get_or, replicate, get_or-eq_default}
use Rattle.one_copy.specs.Types.{Creation, Entry, Record, Chunk, Host, Message}
use Rattle.rules.specs.Creation.{fresh_host, fresh_chunk, fresh}
use Rattle.rules.specs.Limits.{host_limit, chunk_limit, block_limit, place_limit}
use Rattle.rules.specs.Tables.{is_host, is_chunk, host_of, chunk_of, record_of}
use Rattle.rules.specs.Waiting.{in_order}
use Rattle.rules.specs.Words.{each, numbers}
use Rattle.rules.specs.Zero.{zero_record, zero_host, zero_chunk, zero_place, no_record, no_host, no_chunk}
use Rattle.rules.proofs.Lists.{each-length, numbers-length, each_number}
use Rattle.one_copy.proofs.Tests.{le_or_lt}
use Rattle.one_copy.proofs.Abs.{idle, idle≢write_k}
use Rattle.one_copy.proofs.Lists.{Any}
use Rattle.one_copy.proofs.Net.{Sent, OfRead, OfPre, OfCommit, OfAbort, OfValue, OfAck, OfBoth}
use Rattle.one_copy.proofs.View.{Hist, seats_of, HasW, HasR}
use Rattle.one_copy.proofs.Homes.{Homes}
use Rattle.one_copy.proofs.Good.{Good}

-- nothing has been begun
abbrev pub no_hist : Hist
no_hist = record { kind = λ _. idle; value = λ _. 0; ae = λ _. 0; listed = []; reads = [] }

-- ---- what holds of the parts of a kind holds of each

-- an array of a and z
filled-by : {A : Type 0} (P : A → Type 0) (x : ℕ → Bool) (a z d : A) (n : ℕ) → P a → P z → P d → (j : ℕ)
    → P (get_or (each (λ j. cond (x j) a z) (numbers n)) j d)
filled-by P x a z d n pa pz pd j = elim (le_or_lt n j) [
  | inl l ↦ subst⁻¹ P (get_or-eq_default (each (λ j. cond (x j) a z) (numbers n)) d
      (omega (arith, each-length (λ j. cond (x j) a z) (numbers n), numbers-length n))) pd
  | inr l ↦ subst⁻¹ P (each_number (λ j. cond (x j) a z) n j d l) (go (x j))
]
  where
    go : (t : Bool) → P (cond t a z)
    go true = pa
    go false = pz

-- an array of one element
replicated : {A : Type 0} (P : A → Type 0) (n : ℕ) (a d : A) → P a → P d → (j : ℕ) → P (get_or (replicate n a) j d)
replicated P zero a d p q j = q
replicated P (suc n) a d p q zero = p
replicated P (suc n) a d p q (suc j) = replicated P n a d p q j

-- an empty network
none-sent : (n : ℕ) (P : Message → Type 0) → Sent (replicate n zero_place) P → ⊥
none-sent zero P h = h
none-sent (suc n) P h = elim h [ inl z ↦ z | inr z ↦ none-sent n P z ]

module _ (k : Creation) where
  -- a host is a fresh one, zero, or beyond the array
  hosts_are : (P : Host → Type 0) → P fresh_host → P zero_host → P no_host → (j : ℕ) → P (host_of (fresh k) j)
  unfolding fresh
  hosts_are P p q r = filled-by P (is_host k) fresh_host zero_host no_host host_limit p q r

  -- a chunk
  chunks_are : (P : Chunk → Type 0) → P fresh_chunk → P zero_chunk → P no_chunk → (c : ℕ) → P (chunk_of (fresh k) c)
  unfolding fresh
  chunks_are P p q r = filled-by P (is_chunk k) fresh_chunk zero_chunk no_chunk chunk_limit p q r

  -- a record
  records_are : (P : Record → Type 0) → P zero_record → P no_record → (c b : ℕ) → P (record_of (fresh k) c b)
  unfolding fresh
  records_are P p q c b = replicated P (chunk_limit * block_limit) zero_record no_record p q (c * block_limit + b)

  -- nothing is in flight
  nothing-sent : (P : Message → Type 0) → Sent (fresh k).places P → ⊥
  unfolding fresh
  nothing-sent P z = none-sent place_limit P z

  -- no host is at work
  idle_host : (j : ℕ) → (host_of (fresh k) j).attempt.timestamp.0 ≡ 0
  idle_host = hosts_are (λ x. x.attempt.timestamp.0 ≡ 0) refl refl refl

  -- nothing waits
  no-entry : (c b : ℕ) (P : Entry → Type 0) → Any P (in_order (record_of (fresh k) c b).waiting) → ⊥
  no-entry c b P = records_are (λ r. Any P (in_order r.waiting) → ⊥) (λ z. z) (λ z. z) c b

  module _ (b : ℕ) where
    -- no write
    no-w : (j u : ℕ) → HasW b (seats_of (fresh k) j) u → ⊥
    no-w j u z = omega (arith, z.stamp, z.pos, idle_host j)

    -- no read
    no-r : (j u v : ℕ) → HasR b (seats_of (fresh k) j) u v → ⊥
    no-r j u v z = omega (arith, z.stamp, z.pos, idle_host j)

    -- the invariant holds, of nothing
    pub fresh-good : Good b no_hist (fresh k)
    fresh-good = record {
      inv = record {
        glob = record {
          zero_k = refl;
          list_k = λ t z. absurd z;
          cur_k = λ t z. absurd (no-w z.0 t z.1);
          act_cur = λ t z. (z.0, z.1);
          ack_k = λ t c. elim [ inl z ↦ absurd (nothing-sent (OfAck b t c) z) | inr z ↦ absurd (no-w z.0 t z.1) ];
          abt_k = λ t z. absurd (nothing-sent (OfAbort b t) z);
          pre_k = λ c t e v z. absurd (nothing-sent (OfPre b c t e v) z);
          rdm_k = λ c t z. absurd (nothing-sent (OfRead b c t) z);
          past = λ t z. absurd (idle≢write_k z);
          own = λ t z. absurd (no-w z.0 t z.1);
          dead = λ t z. absurd (nothing-sent (OfAbort b t) z);
          told = λ t z. absurd (nothing-sent (OfCommit b t) z);
          old = λ t z. absurd (no-w z.0 t z.1);
          stale = λ t z. absurd z;
        };
        cells = λ c m. record {
          held = inl (records_are (λ r. r.write.0 ≡ 0) refl refl c b, records_are (λ r. r.value ≡ 0) refl refl c b);
          read_top = inl (records_are (λ r. r.read.0 ≡ 0) refl refl c b);
          waits = λ t v a z. absurd (no-entry c b _ z);
          reads = λ t z. absurd (no-entry c b _ z);
          done = λ t v z. absurd (no-entry c b _ z);
          dead = λ t v z. absurd (no-entry c b _ z);
          live = λ l t z. absurd z;
          gone = λ l t z. absurd z;
          empty = λ l t v a z. no-entry c b _ z;
          promise = λ t z. absurd (no-w z.0 t z.1);
        };
        seen = λ t x. elim [
          | inl z ↦ absurd (nothing-sent (OfValue b t x) z)
          | inr z ↦
              elim z [ inl y ↦ absurd (no-r y.0 t x y.1) | inr y ↦ absurd y ]
        ];
        home = λ c t z. absurd (no-entry c b _ z);
      };
      vals = λ t v z. absurd z;
      drawn = λ t. inl refl;
      stamps = λ j. inl (idle_host j);
      mine = λ j t z. absurd (no-w j t z);
      sane = λ c _. chunks_are (λ x. x.lost ≡ false) refl refl refl c;
      known = λ j. hosts_are (λ x. x.epoch.0 ≤ (fresh k).epoch.0) (early (fresh k).epoch.0) (early (fresh k).epoch.0)
          (early (fresh k).epoch.0) j;
    }
      where
        early : (n : ℕ) → 0 ≤ n
        early n = omega arith

  -- nothing is mentioned
  pub fresh-homes : Homes (λ _. 0) (fresh k)
  fresh-homes u d = elim [
    | inl z ↦ absurd (omega (arith, z.1.stamp, z.1.pos, idle_host z.0))
    | inr z ↦ elim z [ inl q ↦ absurd (nothing-sent (OfBoth d u) q) | inr q ↦ absurd (no-entry q.0 d (λ e. e.timestamp.0 ≡ u) q.2) ]
  ]
