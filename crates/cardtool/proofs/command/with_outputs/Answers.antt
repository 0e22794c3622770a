use Rattle.std.proofs.Common.{ap₂, refl, ◌∙◌}
use Rattle.std.proofs.lemmas.Result.{IfOk-weaker}
use Rattle.clap.specs.Words.{with_rule}
use Rattle.cardtool.proofs.command.with_outputs.Goals as goal

pub returns : goal.returns
returns c =
    IfOk-weaker c.arg-4.result _ _
    (λ r h. h.shape c.flag-force.ensures.local
    ∙ ap₂ with_rule
    (c.in_ok-arg-3.ensures.shape c.option-save.ensures.local
    ∙ ap₂ with_rule
    (c.in_ok-arg-2.ensures.shape c.flag-labels.ensures.local
    ∙ ap₂ with_rule
    (c.in_ok-arg.ensures.shape c.option-vcd.ensures.local
    ∙ ap₂ with_rule refl c.option-vcd.ensures.rule)
    c.flag-labels.ensures.rule)
    c.option-save.ensures.rule)
    c.flag-force.ensures.rule)
    c.arg-4.ensures
