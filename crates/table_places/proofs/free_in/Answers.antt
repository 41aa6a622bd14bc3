use Rattle.std.proofs.Common.{rules, ◌≡◌, ◌∙◌, sym}
use Rattle.std.specs.List.{count_by}
use Rattle.rules.specs.Network.{is_free, free_places}
use Rattle.table_sets.proofs.Chains.{length-those}
use Rattle.table_places.proofs.free_in.Goals as goal

pub returns : goal.returns
unfolding free_places
returns c =
    let counted : c.count.result ≡ count_by is_free c.args.t.now.places = search rules in
    counted ∙ sym (length-those is_free c.args.t.now.places)
