-- What the network holds, as predicates that compute on a message's sort and header
use Rattle.std.specs.Prelude.{None, Option, Some}
use Prim.Native.Nat.{ℕ, ◌<◌}
use mathlib.Core.Path.{◌≡◌, sym, ◌∙◌, ap}
use mathlib.Core.Logic.{◌⊎◌, inl, inr}
use mathlib.Core.Bool.{true}
use mathlib.Core.List.{List, [], ◌∷◌}
use Rattle.one_copy.specs.Types.{Set, Header, Message, Request, Sort}
use Rattle.rules.specs.Limits.{chunk_limit}
use Rattle.rules.specs.Messages.{header_of, sort_of, message_of}
use Rattle.rules.specs.Network.{is_free, chunks_of, removed, sent, sent_to_each}
use Rattle.rules.specs.Tables.{slot_of}
use Rattle.rules.specs.Words.{each, fold, place, numbers}
use Rattle.rules.specs.Zero.{◌among◌, zero_place}
use Rattle.rules.proofs.Messages.{made}
use Rattle.one_copy.proofs.Lists.{Any, any_set, any_get_d, any_those, any_numbers}

-- what is said by a read, by a prewrite's epoch and value, by a commit, an abort, a read reply's value, a prewrite reply: a message
-- says it by its sort, and a refusal says nothing
abbrev Said : (read : Type 0) → (prewrite : ℕ → ℕ → Type 0) → (commit abort : Type 0) → (value : ℕ → Type 0) → (ack : Type 0) → Sort → Type 0
Said r p c a v k (Sort.Request e Request.Read) = r
Said r p c a v k (Sort.Request e (Request.Prewrite y)) = p e.0 y
Said r p c a v k (Sort.Request e Request.Commit) = c
Said r p c a v k (Sort.Request e Request.Abort) = a
Said r p c a v k (Sort.Refusal x) = ⊥
Said r p c a v k (Sort.ReadReply y) = v y
Said r p c a v k Sort.PrewriteReply = k

-- a read of block b for chunk c under t
abbrev pub OfRead : (b c t : ℕ) → Message → Type 0
OfRead b c t m = Said (Unit {0}) (λ _ _. ⊥) ⊥ ⊥ (λ _. ⊥) ⊥ (sort_of m) × ((header_of m).block ≡ b) × ((header_of m).chunk ≡ c)
    × ((header_of m).timestamp.0 ≡ t)

-- a prewrite, with its epoch x and value y
abbrev pub OfPre : (b c t x y : ℕ) → Message → Type 0
OfPre b c t x y m = Said ⊥ (λ e v. (e ≡ x) × (v ≡ y)) ⊥ ⊥ (λ _. ⊥) ⊥ (sort_of m) × ((header_of m).block ≡ b) × ((header_of m).chunk ≡ c)
    × ((header_of m).timestamp.0 ≡ t)

-- a commit, to whichever chunk
abbrev pub OfCommit : (b t : ℕ) → Message → Type 0
OfCommit b t m = Said ⊥ (λ _ _. ⊥) (Unit {0}) ⊥ (λ _. ⊥) ⊥ (sort_of m) × ((header_of m).block ≡ b) × ((header_of m).timestamp.0 ≡ t)

-- an abort, to whichever chunk
abbrev pub OfAbort : (b t : ℕ) → Message → Type 0
OfAbort b t m = Said ⊥ (λ _ _. ⊥) ⊥ (Unit {0}) (λ _. ⊥) ⊥ (sort_of m) × ((header_of m).block ≡ b) × ((header_of m).timestamp.0 ≡ t)

-- a read reply with value x
abbrev pub OfValue : (b t x : ℕ) → Message → Type 0
OfValue b t x m = Said ⊥ (λ _ _. ⊥) ⊥ ⊥ (λ v. v ≡ x) ⊥ (sort_of m) × ((header_of m).block ≡ b) × ((header_of m).timestamp.0 ≡ t)

-- a prewrite reply of chunk c
abbrev pub OfAck : (b t c : ℕ) → Message → Type 0
OfAck b t c m = Said ⊥ (λ _ _. ⊥) ⊥ ⊥ (λ _. ⊥) (Unit {0}) (sort_of m) × ((header_of m).block ≡ b) × ((header_of m).timestamp.0 ≡ t)
    × ((header_of m).chunk ≡ c)

-- any message of block b under t
abbrev pub OfBoth : (b t : ℕ) → Message → Type 0
OfBoth b t m = ((header_of m).block ≡ b) × ((header_of m).timestamp.0 ≡ t)

-- one that is made is of its header's
pub made-both : (hd : Header) (s : Sort) (b t : ℕ) → OfBoth b t (message_of hd s) → (hd.block ≡ b) × (hd.timestamp.0 ≡ t)
made-both hd s b t z =
    let e = (made hd s).0 in
    (sym (ap (λ (h : Header). h.block) e) ∙ z.0, sym (ap (λ (h : Header). h.timestamp.0) e) ∙ z.1)

-- some message in the network is P
abbrev pub OnSlot : (Message → Type 0) → Option Message → Type 0
OnSlot P None = ⊥
OnSlot P (Some m) = P m

-- some place has a message that is P
abbrev pub Sent : List (Option Message) → (Message → Type 0) → Type 0
Sent n P = Any (λ p. OnSlot P p) n

-- one message more
pub sent-one : (P : Message → Type 0) (m : Message) (n : List (Option Message)) → Sent (sent n m) P → Sent n P ⊎ P m
unfolding sent
sent-one P m n h = any_set (λ p. OnSlot P p) n (place is_free n) (Some m) h

-- messages one after another
sent-list : (P : Message → Type 0) (f : ℕ → Message) (l : List ℕ) (n : List (Option Message)) → Sent (fold sent n (each f l)) P → Sent n P
    ⊎ Any (λ d. P (f d)) l
unfolding fold each
sent-list P f [] n h = inl h
sent-list P f (d ∷ l) n h = elim (sent-list P f l (sent n (f d)) h) [
  | inl q ↦
      elim (sent-one P (f d) n q) [ inl r ↦ inl r | inr r ↦ inr (inl r) ]
  | inr q ↦ inr (inr q)
]

-- one message to each chunk of a set
pub sent-each : (P : Message → Type 0) (f : ℕ → Message) (to : Set) (n : List (Option Message)) → Sent (sent_to_each n to f) P → Sent n P
    ⊎ ((d : ℕ) × (d < chunk_limit) × (d among to ≡ true) × P (f d))
unfolding sent_to_each
sent-each P f to n h = elim (sent-list P f (chunks_of to) n h) [
  | inl q ↦ inl q
  | inr q ↦ (let r = any_numbers _ chunk_limit (any_those (λ d. d among to) (λ d. P (f d)) (numbers chunk_limit) q) in
      inr (r.0, r.1, r.2.0, r.2.1))
]

-- a message that was taken out
pub sent-taken : (P : Message → Type 0) (n : List (Option Message)) (p : ℕ) → Sent (removed n p) P → Sent n P
sent-taken P n p h = elim (any_set (λ p. OnSlot P p) n p zero_place h) [ inl q ↦ q | inr q ↦ absurd q ]

-- the message at a place
pub sent-at : (P : Message → Type 0) (n : List (Option Message)) (p : ℕ) (m : Message) → slot_of n p ≡ Some m → P m → Sent n P
sent-at P n p m e h = any_get_d (λ p. OnSlot P p) n p zero_place (λ q. q) (rw e h)
