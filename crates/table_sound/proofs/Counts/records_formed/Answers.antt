use Rattle.std.proofs.Common.{◌∙◌, arith, rules, get_or}
use Rattle.rules.specs.Zero.{no_record}
use Rattle.table_sound.specs.Parts.{record_of_number}
use Rattle.table_sound.proofs.Laws.{record_by_record}
use Rattle.table_sound.proofs.Counts.records_formed.Goals as goal

pub returns : goal.returns
returns c =
    let records = c.args.records.now in
    c.every_place.ensures (λ i. record_of_number c.args.self i (get_or records i no_record)) 128 (omega arith) (λ i r ok is said. search rules)
    ∙ record_by_record c.args.self records
