use Rattle.std.proofs.Common.{ap₂, refl, ◌∙◌}
use Rattle.std.proofs.lemmas.Result.{IfOk-weaker}
use Rattle.clap.specs.Words.{with_rule}
use Rattle.cardtool.proofs.command.with_pictures.Goals as goal

pub returns : goal.returns
returns c =
    IfOk-weaker c.arg-4.result _ _
    (λ r h. h.shape c.option-exchanges.ensures.local
    ∙ ap₂ with_rule
    (c.in_ok-arg-3.ensures.shape c.option-timing.ensures.local
    ∙ ap₂ with_rule
    (c.in_ok-arg-2.ensures.shape c.option-html.ensures.local
    ∙ ap₂ with_rule
    (c.in_ok-arg.ensures.shape c.option-svg.ensures.local
    ∙ ap₂ with_rule refl c.option-svg.ensures.rule)
    c.option-html.ensures.rule)
    c.option-timing.ensures.rule)
    c.option-exchanges.ensures.rule)
    c.arg-4.ensures
