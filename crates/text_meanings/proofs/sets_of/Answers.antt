use Rattle.std.proofs.Common.{rules}
use borrow.Author.Tests.{tests}
use Rattle.text_meanings.specs.Meanings.{set_with}
use Rattle.text_meanings.proofs.Arrays.{map_each}
use Rattle.text_meanings.proofs.sets_of.Goals as goal

pub returns : goal.returns
returns c = map_each _ _ set_with (λ i y q k. search (rules, tests)) c.args.ns c.map.result 16 0 (set_with 0) (search rules) c.map.ensures.items
