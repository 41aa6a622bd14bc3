use Rattle.std.proofs.Common.{Some, ◌++◌, ◌∷◌, ◌≤◌, [], ◌≡◌, ◌+◌, length, sym, ap, ◌∙◌, rules, arith}
use borrow.Author.Tests.{tests}
use Rattle.std.proofs.lemmas.List.{length_push}
use Rattle.std.proofs.Math.Seq.{take_all}
use Rattle.std.proofs.lemmas.List.FromFn.{length-enumerate_from}
use Rattle.std.proofs.lemmas.Iterator.Consumers.{YieldsList-turn, YieldsList-end}
use Rattle.rules.specs.Words.{every}
use Rattle.text_numbers.specs.Lines.{words, is_number, saying}
use Rattle.text_numbers.proofs.Laws.{words_come, word_at, next_put, next_past, next_good, line_long, line_bad, line_good}
use Rattle.text_numbers.proofs.parse.Goals as goal
use Rattle.text_numbers.proofs.parse.Goals.{then-i-lt-NUMBERS, else-i-lt-NUMBERS}

pub returns-then-line-gt-LIMIT : goal.returns-then-line-gt-LIMIT
returns-then-line-gt-LIMIT c = line_long c.args.line.now c.if-line-gt-LIMIT.true

pub returns-in_err-n : goal.returns-in_err-n
returns-in_err-n c =
    let l = c.args.line.now in
    let t = word_at (words l) _ _ _ (YieldsList-turn (words_come _ l c.into_iter-i-iterator.ensures.into_iter_gives c.enumerate-i-items.ensures.source c.enumerate-i-items.ensures.count c.split.ensures.rest c.split.ensures.done c.split.ensures.closure (λ x r q k. search (rules, tests))) c.loop-i.yielded _ c.loop-i.yielded_by _ _ _ c.in-Some.is c.next.ensures.steps) in
    c.from_residual.ensures ∙ line_bad l c.if-line-gt-LIMIT.false _ _ t.1 (sym c.number.ensures ∙ c.in_err-n.was)

pub loop-i-preserved : goal.loop-i-preserved
loop-i-preserved c =
    let l = c.args.line.now in
    let t = word_at (words l) _ _ _ (YieldsList-turn (words_come _ l c.into_iter-i-iterator.ensures.into_iter_gives c.enumerate-i-items.ensures.source c.enumerate-i-items.ensures.count c.split.ensures.rest c.split.ensures.done c.split.ensures.closure (λ x r q k. search (rules, tests))) c.loop-i.yielded _ c.loop-i.yielded_by _ _ _ c.in-Some.is c.next.ensures.steps) in
    let e = sym c.number.ensures ∙ c.in_ok-n.was in
    let n = c.loop-i.yielded in
    let one : length (n ++ (c.in-Some.i, c.in-Some.word) ∷ []) ≡ length n + 1 = length_push n (c.in-Some.i, c.in-Some.word) in
    rw one (record {
      said = elim c.if-i-lt-NUMBERS.branch [
        | then-i-lt-NUMBERS w ↦ next_put (words l) (length n) _ t.1 _ _ t.0 e c.loop-i.said c.if-i-lt-NUMBERS.said c.loop-i.invariant.said w.said-is
        | else-i-lt-NUMBERS w ↦ next_past (words l) (length n) _ t.1 _ _ t.0 e c.loop-i.said c.if-i-lt-NUMBERS.said c.loop-i.invariant.said w.if-i-lt-NUMBERS.false w.said-is
      ];
      good = next_good (words l) (length n) _ t.1 _ e c.loop-i.invariant.good;
    })

pub returns : goal.returns
returns c =
    let l = c.args.line.now in
    let t = YieldsList-end (words_come _ l c.into_iter-i-iterator.ensures.into_iter_gives c.enumerate-i-items.ensures.source c.enumerate-i-items.ensures.count c.split.ensures.rest c.split.ensures.done c.split.ensures.closure (λ x r q k. search (rules, tests))) c.loop-i.yielded _ c.loop-i.yielded_by _ _ c.in-None.is c.next.ensures.steps in
    let far : length (words l) ≤ length c.loop-i.yielded = omega (arith, t.1, length-enumerate_from 0 (words l)) in
    let all = take_all (length c.loop-i.yielded) (words l) far in
    ap Some (c.loop-i.invariant.said ∙ ap saying all) ∙ line_good l c.if-line-gt-LIMIT.false (ap (every is_number) (sym all) ∙ c.loop-i.invariant.good)
