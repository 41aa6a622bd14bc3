use Rattle.std.proofs.Common.{List, Bool, ◌/◌, ◌%◌, ◌^◌, eqb, false, ap, rules}
use borrow.Author.Tests.{tests}
use Rattle.text_meanings.proofs.Arrays.{from_fn_each}
use Rattle.text_meanings.proofs.set_of.Goals as goal

pub returns : goal.returns
returns c = let e = from_fn_each _ _ (λ k. eqb (c.args.n / 2 ^ k % 2) 1) (λ i y q k. search (rules, tests)) c.from_fn.result 8 false c.from_fn.ensures.items in ap (λ (s : List Bool). record { chunks = s }) e
