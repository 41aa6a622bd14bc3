use Rattle.std.proofs.Common.{rules, ◌≡◌, ◌∙◌, Bool, arith, refl}
use Rattle.std.specs.Prelude.{Option, None, Some, is_some, IfSome, if◌then◌else◌}
use Rattle.rules.specs.Zero.{zero_place}
use Rattle.rules.specs.declared.Message.{Message}
use Rattle.rules.proofs.Loops.{made-blank, made-next, made-end}
use Rattle.network_places.specs.Sending.{messages_to}
use Rattle.network_requests.proofs.to_each.Goals as goal

-- what `then` gives
given : (x : Message) (P : Message → Type 0) → ((y : Message) → P y → y ≡ x) → (goes : Bool) (o : Option Message) → is_some o ≡ goes → IfSome o P → o ≡ (if goes then Some x else None)
given x P h goes None e t = rw (← e) refl
given x P h goes (Some y) e t = rw (← e, h y t) refl

pub loop-c-init : goal.loop-c-init
loop-c-init g c = (c.requires, omega arith, λ m h. made-blank _ zero_place 8)

pub loop-c-preserved : goal.loop-c-preserved
loop-c-preserved g c =
    let i = c.loop-c.c-counter in (
      c.loop-c.invariant.0,
      omega arith,
      λ m h. rw (c.loop-c.invariant.2 m h, given (m i) _ (λ y k. h i y (omega arith) (search rules)) _ _ c.then.ensures.variant c.then.ensures.some) (made-next _ _ 8 i (omega arith)),
    )

pub returns : goal.returns
unfolding messages_to
returns g c m h =
    let done : c.loop-c.c-counter ≡ 8 = omega arith in
    c.loop-c.invariant.2 m h ∙ rw done (made-end _ _ 8)
