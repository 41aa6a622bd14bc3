use Rattle.std.proofs.Common.{arith, ◌∙◌, sym, ap, [], ◌∷◌}
use Rattle.rules.specs.Words.{fold}
use Rattle.rules.proofs.Loops.{fold-append}
use Rattle.text_lines.specs.declared.Text.{Text}
use Rattle.text_lines.specs.Texts.{decimal, followed}
use Rattle.text_lines.proofs.Texts.{decimal_is}
use Rattle.text_lines.proofs.push_number.Goals as goal

pub returns : goal.returns
unfolding fold
returns c =
    let a = c.args in
    c.push.ensures ∙ ap (λ (t : Text). followed t a.after) (c.gather.ensures ∙ ap (fold followed a.text.now) (c.as_bytes.ensures.value ∙ c.format.ensures.text ∙ decimal_is a.n (omega arith)))
    ∙ sym (fold-append followed a.text.now (decimal a.n) (a.after ∷ []))
