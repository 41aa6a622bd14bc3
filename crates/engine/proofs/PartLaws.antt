-- An event on the parts that it touches: where they stand, and what is stored back, are the rule's
use Rattle.std.specs.Prelude.{None, Option, Some, Ok, Err}
use Prim.Native.Nat.{ℕ, zero, suc, ◌<◌}
use mathlib.Core.Path.{◌≡◌, refl, sym, ap, ◌∙◌, subst}
use mathlib.Core.Bool.{Bool, true, false, cond}
use mathlib.Core.List.{List}
use native.Mathlib.Omega.{arith}
use lib.Dec.{eqb}
use lib.Seq.{set-get_or}
use borrow.Author.Tests.{ltb-true, lt-ltb}
use Rattle.rules.specs.declared.Set.{Set}
use Rattle.rules.specs.declared.Creation.{Creation}
use Rattle.rules.specs.declared.Chunk.{Chunk}
use Rattle.rules.specs.declared.Host.{Host}
use Rattle.rules.specs.declared.Header.{Header}
use Rattle.rules.specs.declared.Message.{Message}
use Rattle.rules.specs.declared.Table.{Table}
use Rattle.rules.specs.declared.Arrived.{Arrived}
use Rattle.rules.specs.declared.Event.{Event}
use Rattle.rules.specs.declared.Operand.{Operand}
use Rattle.rules.specs.Chunks.{arrives, ran}
use Rattle.rules.specs.Codes.{Row, code_of, refused_by, ruled}
use Rattle.rules.specs.Events.{quietly, with_arrived, chunk_takes, host_takes, takes, finish_rule, kind_of, ranges, rule_of}
use Rattle.rules.specs.Formed.{slot_formed, well_formed}
use Rattle.rules.specs.Hosts.{front, hears}
use Rattle.rules.specs.Limits.{host_limit, chunk_limit, block_limit, place_limit, greatest_clock, one_to}
use Rattle.rules.specs.Messages.{header_of, sort_of, is_for_chunk}
use Rattle.rules.specs.Network.{free_places, removed, sent_to_each, replied}
use Rattle.rules.specs.Tables.{is_host, is_chunk, set_of, host_of, chunk_of, at, record_of, slot_of, with_host, with_chunk, with_record, with_places}
use Rattle.rules.specs.Words.{place}
use Rattle.rules.specs.Zero.{no_host, no_chunk, no_record}
use Rattle.rules.proofs.Formed.{one-to, creation-facts, formed, message_facts, host-place, chunk-place, block-place, front-block, queue_of_lem}
use Rattle.rules.proofs.Lists.{three, walk}
use Rattle.network_places.specs.Sending.{only_reply, no_messages, messages_to, sent_all}
use Rattle.network_places.proofs.Laws.{sent-to-each, sent-reply}
use Rattle.host_attempts.specs.Moves.{finishes}
use Rattle.host_attempts.proofs.Laws.{start_ruled}
use Rattle.event_parts.specs.declared.Acted.{Acted}
use Rattle.event_operands.specs.Address.{operands_of, has_a, address_of, place_at}
use Rattle.event_operands.proofs.Laws.{of_sort}
use Rattle.event_operands.specs.declared.Step.{Step}
use Rattle.event_operands.specs.Steps.{number_of_step}
use Rattle.event_parts.specs.declared.Parts.{Parts}
use Rattle.event_parts.specs.Acts.{granting, by_host, by_messages, by_chunk, by_arrived, delivered, acted}
use Rattle.event_lent.specs.Touches.{removed_at, without}
use Rattle.engine.proofs.Touches.{slot_here, host_here, chunk_here, block_here, parts_of, effect_of}

abbrev event : (n a b c : ℕ) → Event
event n a b c = record { kind = n; a = a; b = b; c = c }

-- ---- what is granted

granted_by : {A B : Type 0} (f : A → B) (rows : List Row) (x : A) → granting f (ruled rows x) ≡ ruled rows (f x)
granted_by {A = A} {B = B} f rows x = go (eqb (code_of rows) 0)
  where
    go : (g : Bool) → granting f (cond g (Ok x) (Err (refused_by (code_of rows)))) ≡ cond g (Ok (f x)) (Err (refused_by (code_of rows)))
    go true = refl
    go false = refl

-- what is to be shown of an event: what it leaves of the parts, stored back, is what its rule grants
abbrev pub Acts : Table → Event → Type 0
Acts t e = granting (effect_of t e) (acted e (parts_of t e)) ≡ ruled (rule_of t e).refusals (rule_of t e).effect

module _ (t : Table) (e : Event) (rows : List Row) (same : rows ≡ (rule_of t e).refusals) where
  by-rule : (a : Acted) → acted e (parts_of t e) ≡ ruled rows a → effect_of t e a ≡ (rule_of t e).effect → Acts t e
  by-rule a acted_is effect_is =
      ap (granting (effect_of t e)) acted_is ∙ granted_by (effect_of t e) rows a ∙ rw (same, effect_is) refl

  -- .. where it makes its parts by f of what is granted
  by-grant : {A : Type 0} (f : A → Acted) (x : A) → acted e (parts_of t e) ≡ granting f (ruled rows x) → effect_of t e (f x) ≡ (rule_of t e).effect → Acts t e
  by-grant f x acted_is effect_is = by-rule (f x) (acted_is ∙ granted_by f rows x) effect_is

-- ---- what is stored back as it was, with `left` in the network before the new messages

module _ (t : Table) (left : List (Option Message)) (h c b : ℕ) where
  host_alone : (new : Host) (messages : List (Option Message))
      → with_places (with_record (with_chunk (with_host t h new) c (chunk_of t c)) c b (record_of t c b)) (sent_all left messages)
      ≡ with_places (with_host t h new) (sent_all left messages)
  host_alone new messages = rw (set-get_or t.chunks c no_chunk, set-get_or t.records (at c b) no_record) refl

  host-heard : (new : Host)
      → with_places (with_record (with_chunk (with_host t h new) c (chunk_of t c)) c b (record_of t c b)) (sent_all left no_messages) ≡ with_host (with_places t left) h new
  unfolding replied
  host-heard new = host_alone new no_messages ∙ ap (with_places (with_host t h new)) (sent-reply left None)

  nobody_heard : with_places (with_record (with_chunk (with_host t h (host_of t h)) c (chunk_of t c)) c b (record_of t c b)) (sent_all left no_messages) ≡ with_places t left
  nobody_heard = host-heard (host_of t h) ∙ rw (set-get_or t.hosts h no_host) refl

  chunk_alone : (new : Chunk)
      → with_places (with_record (with_chunk (with_host t h (host_of t h)) c new) c b (record_of t c b)) (sent_all left no_messages) ≡ with_chunk (with_places t left) c new
  unfolding replied
  chunk_alone new =
      rw (set-get_or t.hosts h no_host, set-get_or t.records (at c b) no_record) (ap (with_places (with_chunk t c new)) (sent-reply left None))

  chunk-left : (x : Arrived)
      → with_places (with_record (with_chunk (with_host t h (host_of t h)) c x.chunk) c b x.held) (sent_all left (only_reply x.reply))
      ≡ with_arrived (with_places t left) c b x
  chunk-left x = rw (set-get_or t.hosts h no_host) (ap (with_places (with_record (with_chunk t c x.chunk) c b x.held)) (sent-reply left x.reply))

module _ (t : Table) where
  abbrev k : Creation
  k = t.creation

  -- ---- the events that change one host, or one chunk, and nothing else

  module _ (e : Event) (elsewhere : removed_at e ≡ None) (rows : List Row) (same : rows ≡ (rule_of t e).refusals) where
    by-host : (new : Host) → host_here t e ≡ e.a → acted e (parts_of t e) ≡ granting (by_host (parts_of t e)) (ruled rows new)
        → quietly (with_host t e.a new) ≡ (rule_of t e).effect → Acts t e
    by-host new here acted_is effect_is =
        by-grant t e rows same (by_host (parts_of t e)) new acted_is
        (ap quietly (host-heard t (without t.places (removed_at e)) (host_here t e) (chunk_here t e) (block_here t e) new) ∙ rw (elsewhere, here) effect_is)

    by-chunk : (new : Chunk) → chunk_here t e ≡ e.a → acted e (parts_of t e) ≡ granting (by_chunk (parts_of t e)) (ruled rows new)
        → quietly (with_chunk t e.a new) ≡ (rule_of t e).effect → Acts t e
    by-chunk new here acted_is effect_is =
        by-grant t e rows same (by_chunk (parts_of t e)) new acted_is
        (ap quietly (chunk_alone t (without t.places (removed_at e)) (host_here t e) (chunk_here t e) (block_here t e) new) ∙ rw (elsewhere, here) effect_is)

  -- ---- start, finish and run

  -- a host that sends to each chunk of a set
  host-sends : (h c b : ℕ) (new : Host) (to : Set) (m : (chunk : ℕ) → Message)
      → with_places (with_record (with_chunk (with_host t h new) c (chunk_of t c)) c b (record_of t c b)) (sent_all t.places (messages_to to m))
      ≡ with_places (with_host t h new) (sent_to_each t.places to m)
  host-sends h c b new to m = host_alone t t.places h c b new (messages_to to m) ∙ ap (with_places (with_host t h new)) (sent-to-each t.places to m)

  -- the event's numbers are in their ranges, so the start is as the rule says it
  start_acts : (a b c : ℕ) → well_formed t ≡ true → ranges k (event 3 a b c) ≡ true → Acts t (event 3 a b c)
  unfolding acted ranges rule_of kind_of place operands_of
  start_acts a b c ok r =
      let operands = three (is_host k a) (one_to greatest_clock b) (is_chunk k c) r in
      let p = parts_of t (event 3 a b c) in
      by-grant t (event 3 a b c) _ refl (by_messages p) _
      (ap (granting (by_messages p)) (start_ruled a b c p.«set» p.host p.free (host-place k a operands.0 (formed t ok).creation) (one-to greatest_clock b operands.1).1))
      (ap quietly (host-sends a c (front (host_of t a)).block _ _ _))

  finish_acts : (a b c : ℕ) → Acts t (event 6 a b c)
  unfolding acted finishes rule_of kind_of place operands_of
  finish_acts a b c =
      by-grant t (event 6 a b c) _ refl (by_messages (parts_of t (event 6 a b c))) _ refl
      (ap (λ (x : Table). record { table = x; outcome = (finish_rule t a b c).effect.outcome }) (host-sends a 0 (front (host_of t a)).block _ _ _))

  run-acts : (a b c : ℕ) → Acts t (event 9 a b c)
  unfolding acted rule_of kind_of place operands_of
  run-acts a b c =
      by-grant t (event 9 a b c) _ refl (by_arrived (parts_of t (event 9 a b c))) _ refl (ap quietly (chunk-left t t.places 0 a b (ran a b (chunk_of t a) (record_of t a b))))

  -- ---- the network

  -- the parts of whom a message names
  abbrev parts_to : Option Message → Parts
  parts_to s = let to = address_of s in record {
    creation = k;
    epoch = t.epoch;
    slot = s;
    host = host_of t to.host;
    chunk = chunk_of t to.chunk;
    «set» = set_of k to.block;
    held = record_of t to.chunk to.block;
    free = free_places t.places;
  }

  -- what it leaves of whom it names, stored back, is what the rule makes of the table
  taken_is : (left : List (Option Message)) (s : Option Message) → let to = address_of s in
      let d = delivered (parts_to s) s in
      record {
        table = with_places (with_record (with_chunk (with_host t to.host d.host) to.chunk d.chunk) to.chunk to.block d.held) (sent_all left d.messages);
        outcome = d.outcome;
      } ≡ quietly (takes (with_places t left) s)
  taken_is left None = ap quietly (nobody_heard t left 0 0 0)
  taken_is left (Some m) = go (is_for_chunk (sort_of m))
    where
      go : (f : Bool) → let to = header_of m in
          let p = parts_to (Some m) in
          let d = cond f (by_arrived p (arrives k.blocks p.chunk p.held m)) (by_host p (hears p.host m)) in
          record {
            table = with_places (with_record (with_chunk (with_host t to.host d.host) to.chunk d.chunk) to.chunk to.block d.held) (sent_all left d.messages);
            outcome = d.outcome;
          } ≡ quietly (cond f (chunk_takes (with_places t left) to m) (host_takes (with_places t left) to m))
      go true = let to = header_of m in ap quietly (chunk-left t left to.host to.chunk to.block (arrives k.blocks (chunk_of t to.chunk) (record_of t to.chunk to.block) m))
      go false = let to = header_of m in ap quietly (host-heard t left to.host to.chunk to.block (hears (host_of t to.host) m))

  deliver-acts : (a b c : ℕ) → Acts t (event 4 a b c)
  unfolding acted rule_of kind_of place operands_of
  deliver-acts a b c = by-rule t (event 4 a b c) _ refl _ refl (taken_is (removed t.places a) (slot_of t.places a))

  drop-acts : (a b c : ℕ) → Acts t (event 5 a b c)
  unfolding acted rule_of kind_of place operands_of
  drop-acts a b c =
      let to = address_of (slot_of t.places a) in
      by-rule t (event 5 a b c) _ refl _ refl (ap quietly (nobody_heard t (removed t.places a) to.host to.chunk to.block))

-- ---- every event but failure and epoch change

module _ (t : Table) (e : Event) (ok : well_formed t ≡ true) (inside : ranges t.creation e ≡ true) where
  here : (n : ℕ) → (ranges t.creation (event n e.a e.b e.c) ≡ true → Acts t (event n e.a e.b e.c)) → e.kind ≡ n → Acts t e
  here n f h = subst (λ (k : ℕ). Acts t (event k e.a e.b e.c)) (sym h) (f (rw h at inside))

  pub acts : (s : Step) → e.kind ≡ number_of_step s → (s ≡ Step.Fail → ⊥) → (s ≡ Step.EpochChange → ⊥) → Acts t e
  unfolding acted rule_of kind_of place operands_of
  acts Step.Read h _ _ = here 1 (λ _. by-host t (event 1 e.a e.b e.c) refl _ refl _ refl refl refl) h
  acts Step.Write h _ _ = here 2 (λ _. by-host t (event 2 e.a e.b e.c) refl _ refl _ refl refl refl) h
  acts Step.Start h _ _ = here 3 (start_acts t e.a e.b e.c ok) h
  acts Step.Deliver h _ _ = here 4 (λ _. deliver-acts t e.a e.b e.c) h
  acts Step.Drop h _ _ = here 5 (λ _. drop-acts t e.a e.b e.c) h
  acts Step.Finish h _ _ = here 6 (λ _. finish_acts t e.a e.b e.c) h
  acts Step.Timeout h _ _ = here 7 (λ _. by-host t (event 7 e.a e.b e.c) refl _ refl _ refl refl refl) h
  acts Step.Refresh h _ _ = here 8 (λ _. by-host t (event 8 e.a e.b e.c) refl _ refl _ refl refl refl) h
  acts Step.Run h _ _ = here 9 (λ _. run-acts t e.a e.b e.c) h
  acts Step.Stop h _ _ = here 10 (λ _. by-host t (event 10 e.a e.b e.c) refl _ refl _ refl refl refl) h
  acts Step.Fail _ other _ = absurd (other refl)
  acts Step.Recover h _ _ = here 12 (λ _. by-chunk t (event 12 e.a e.b e.c) refl _ refl _ refl refl refl) h
  acts Step.TakeLease h _ _ = here 13 (λ _. by-chunk t (event 13 e.a e.b e.c) refl _ refl _ refl refl refl) h
  acts Step.GiveLease h _ _ = here 14 (λ _. by-chunk t (event 14 e.a e.b e.c) refl _ refl _ refl refl refl) h
  acts Step.EpochChange _ _ other = absurd (other refl)
  acts Step.Overdue h _ _ = here 16 (λ _. by-chunk t (event 16 e.a e.b e.c) refl _ refl _ refl refl refl) h

-- ---- where the parts of an event stand: in the arrays

module _ (t : Table) (e : Event) (ok : well_formed t ≡ true) (inside : ranges t.creation e ≡ true) where
  abbrev creation : Creation
  creation = t.creation

  place-below : place_at e < place_limit
  place-below = of_sort (λ n. n < place_limit) creation e Operand.Place inside (omega arith) (λ n. ltb-true n place_limit)

  -- what its message names
  abbrev Names : Header → Type 0
  Names to = (is_host creation to.host ≡ true) × (to.chunk < chunk_limit) × (to.block < block_limit)

  -- host 0 is one of every store
  host_0 : is_host creation 0 ≡ true
  host_0 = lt-ltb 0 creation.hosts (creation-facts creation (formed t ok).creation).host

  names : Names (address_of (slot_here t e))
  names = go (slot_here t e) ((formed t ok).places (place_at e) place-below)
    where
      go : (s : Option Message) → slot_formed creation s ≡ true → Names (address_of s)
      go None f = (host_0, omega arith, omega arith)
      go (Some m) f =
          let to = header_of m in
          let x = (message_facts creation m f).header in
          (x.host, chunk-place creation to.chunk x.chunk (formed t ok).creation, ltb-true to.block block_limit x.block)

  host_ours : is_host creation (host_here t e) ≡ true
  host_ours =
      walk (λ (n : ℕ). is_host creation n ≡ true) (has_a e Operand.Place) _ _ (λ _. names.0)
      (λ _. of_sort (λ n. is_host creation n ≡ true) creation e Operand.Host inside host_0 (λ n h. h))

  pub host-below : host_here t e < host_limit
  host-below = host-place creation (host_here t e) host_ours (formed t ok).creation

  pub chunk-below : chunk_here t e < chunk_limit
  chunk-below =
      walk (λ (n : ℕ). n < chunk_limit) (has_a e Operand.Place) _ _ (λ _. names.1)
      (λ _. of_sort (λ n. n < chunk_limit) creation e Operand.Chunk inside (omega arith) (λ n h. chunk-place creation n h (formed t ok).creation))

  -- the block of a host's front operation; without one it is block 0, the zero operation's
  front_below : (i : ℕ) → is_host creation i ≡ true → (front (host_of t i)).block < block_limit
  front_below i h = go (host_of t i).queue.count refl
    where
      go : (n : ℕ) → (host_of t i).queue.count ≡ n → (front (host_of t i)).block < block_limit
      go zero q = rw q (omega arith)
      go (suc n) q =
          block-place creation (front (host_of t i)).block (front-block creation (host_of t i) (queue_of_lem t (formed t ok) i h) (omega arith)) (formed t ok).creation

  pub block-below : block_here t e < block_limit
  block-below =
      walk (λ (n : ℕ). n < block_limit) (has_a e Operand.Place) _ _ (λ _. names.2)
      (λ _. walk (λ (n : ℕ). n < block_limit) (has_a e Operand.Block) _ _
      (λ _. of_sort (λ n. n < block_limit) creation e Operand.Block inside (omega arith) (λ n h. block-place creation n h (formed t ok).creation))
      (λ _. front_below (host_here t e) host_ours))
