use Rattle.std.proofs.Common.{◌≡◌, arith, sym, ap, ◌∙◌, tests, rules, Ok, Err, true}
use mathlib.Core.Bool.{true≢false}
use Rattle.rules.specs.Events.{ranges}
use Rattle.event_operands.proofs.Laws.{unknown-outside}
use Rattle.engine.proofs.LentLaws.{malformed_way, outside_way, fail_way, change_way, epoch-fits, act_way}
use Rattle.engine.proofs.try_step.Goals as goal

pub returns-then-not-sound_in : goal.returns-then-not-sound_in
returns-then-not-sound_in c = malformed_way c.args.t.now c.args.e (search (rules, tests))

pub returns-then-not-in_range : goal.returns-then-not-in_range
returns-then-not-in_range c = outside_way c.args.t.now c.args.e (search (rules, tests)) (search (rules, tests))

pub returns-in_err-try_from : goal.returns-in_err-try_from
returns-in_err-try_from c =
    let far = unknown-outside c.args.t.now.creation c.args.e c.in_err-try_from.field-0.0 (sym c.try_from.ensures ∙ c.in_err-try_from.was) in
    let near : ranges c.args.t.now.creation c.args.e ≡ true = search (rules, tests) in
    absurd (true≢false (sym near ∙ far))

pub returns-in_err-fail_in-in-Fail : goal.returns-in_err-fail_in-in-Fail
returns-in_err-fail_in-in-Fail c =
    let named = sym c.try_from.ensures ∙ c.in_ok-try_from.was ∙ ap Ok c.in-Fail.is in
    let s = fail_way c.args.t.now c.args.e (search (rules, tests)) (search (rules, tests)) named c.fail_in.result c.fail_in.new.t c.fail_in.ensures in
    let is : c.from_residual-in_err-fail_in-in-Fail.result ≡ Err c.in_err-fail_in-in-Fail.field-0.0 = search (rules, tests) in
    rw is (rw c.in_err-fail_in-in-Fail.was at s)

pub overflow_add-next : goal.overflow_add-next
overflow_add-next c = let fits = epoch-fits c.args.t.now (search (rules, tests)) in search (rules, tests)

pub returns-in_err-change_in-in-EpochChange : goal.returns-in_err-change_in-in-EpochChange
returns-in_err-change_in-in-EpochChange c =
    let named = sym c.try_from.ensures ∙ c.in_ok-try_from.was ∙ ap Ok c.in-EpochChange.is in
    let s = change_way c.args.t.now c.args.e (search (rules, tests)) (search (rules, tests)) named c.change_in.result c.change_in.new.t c.change_in.ensures in
    let is : c.from_residual-in_err-change_in-in-EpochChange.result ≡ Err c.in_err-change_in-in-EpochChange.field-0.0 = search (rules, tests) in
    rw is (rw c.in_err-change_in-in-EpochChange.was at s)

pub returns-in_ok-fail_in-in-Fail : goal.returns-in_ok-fail_in-in-Fail
returns-in_ok-fail_in-in-Fail c =
    let named = sym c.try_from.ensures ∙ c.in_ok-try_from.was ∙ ap Ok c.in-Fail.is in
    let s = fail_way c.args.t.now c.args.e (search (rules, tests)) (search (rules, tests)) named c.fail_in.result c.fail_in.new.t c.fail_in.ensures in
    rw (c.in_ok-fail_in-in-Fail.was) at s

pub returns-in_ok-change_in-in-EpochChange : goal.returns-in_ok-change_in-in-EpochChange
returns-in_ok-change_in-in-EpochChange c =
    let named = sym c.try_from.ensures ∙ c.in_ok-try_from.was ∙ ap Ok c.in-EpochChange.is in
    let s = change_way c.args.t.now c.args.e (search (rules, tests)) (search (rules, tests)) named c.change_in.result c.change_in.new.t c.change_in.ensures in
    rw (c.in_ok-change_in-in-EpochChange.was) at s

pub returns-in_default : goal.returns-in_default
returns-in_default c =
    act_way c.args.t.now c.args.e (search (rules, tests)) (search (rules, tests)) (omega arith) (omega arith) (omega arith) (omega arith)
    c.in_ok-try_from.field-0 (sym c.try_from.ensures ∙ c.in_ok-try_from.was) c.in_default.not-Fail c.in_default.not-EpochChange
    c.act_in.result c.act_in.new.t c.act_in.ensures
