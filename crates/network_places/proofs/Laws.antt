-- What an event's new messages make of the network
use Rattle.std.specs.Prelude.{None, Option, Some}
use Prim.Native.Nat.{ℕ}
use mathlib.Core.Path.{◌≡◌, refl, sym, ◌∙◌}
use mathlib.Core.Bool.{Bool, true, false, cond}
use mathlib.Core.List.{List}
use Rattle.rules.specs.declared.Set.{Set}
use Rattle.rules.specs.declared.Message.{Message}
use Rattle.rules.specs.Limits.{chunk_limit}
use Rattle.rules.specs.Network.{sent, chunks_of, sent_to_each, replied}
use Rattle.rules.specs.Words.{fold, numbers}
use Rattle.rules.specs.Zero.{◌among◌}
use Rattle.rules.proofs.Loops.{fold-those, fold-each, fold_same}
use Rattle.network_places.specs.Sending.{only_reply, messages_to, sent_all}

module _ (places : List (Option Message)) where
  -- one to each chunk of a set
  pub sent-to-each : (to : Set) (m : (chunk : ℕ) → Message) → sent_all places (messages_to to m) ≡ sent_to_each places to m
  unfolding sent_to_each replied messages_to
  sent-to-each to m =
      fold-each replied _ places (numbers chunk_limit)
      ∙ fold_same _ _ (λ n c. turn n (m c) (c among to)) places (numbers chunk_limit)
      ∙ sym (fold-each sent m places (chunks_of to) ∙ fold-those (λ n c. sent n (m c)) (λ c. c among to) places (numbers chunk_limit))
    where
      turn : (n : List (Option Message)) (x : Message) (goes : Bool) → replied n (cond goes (Some x) None) ≡ cond goes (sent n x) n
      turn n x true = refl
      turn n x false = refl

  -- a reply, if any
  pub sent-reply : (s : Option Message) → sent_all places (only_reply s) ≡ replied places s
  unfolding fold replied
  sent-reply s = refl
