use Rattle.std.proofs.Common.{rules, ◌∙◌, ◌≡◌, tests, ap, refl}
use Rattle.std.specs.Option.{option_map_or, option_map}
use Rattle.std.specs.Prelude.{find, Option, None, Some}
use Rattle.std.proofs.lemmas.Iterator.{YieldsList-from_slice}
use Rattle.std.proofs.lemmas.Iterator.Search.{find_from_yields_List}
use Rattle.event_operands.specs.Address.{operands_of, ◌is_a◌}
use Rattle.event_operands.proofs.the.Goals as goal

mapped : {A B C : Type 0} (v : A → B) (f : B → C) (d : C) (r : Option A) → option_map_or (λ x. f (v x)) r d ≡ option_map_or f (option_map v r) d
mapped v f d None = refl
mapped v f d (Some x) = refl

pub returns : goal.returns
returns c =
    let found : option_map (λ x. x.now) c.find.result ≡ find (λ x. x.0 is_a c.args.sort) (operands_of c.args.e)
    = find_from_yields_List (λ x. x.0 is_a c.args.sort) _ _ c.find.result c.find.ensures.ran (YieldsList-from_slice (operands_of c.args.e) cc) (λ x b q k. search (rules, tests)) in
    let given : c.map_or.result ≡ option_map_or (λ x. x.now.1) c.find.result 0 = search (rules, tests) in
    given ∙ mapped (λ x. x.now) (λ x. x.1) 0 c.find.result ∙ ap (λ r. option_map_or (λ x. x.1) r 0) found
