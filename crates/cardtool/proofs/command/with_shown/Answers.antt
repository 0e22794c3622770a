use Rattle.std.proofs.Common.{ap₂, refl, ◌∙◌}
use Rattle.std.proofs.lemmas.Result.{IfOk-weaker}
use Rattle.clap.specs.Words.{with_rule}
use Rattle.cardtool.proofs.command.with_shown.Goals as goal

pub returns : goal.returns
returns c =
    IfOk-weaker c.arg-3.result _ _
    (λ r h. h.shape c.flag-json.ensures.local
    ∙ ap₂ with_rule
    (c.in_ok-arg-2.ensures.shape c.flag-explain.ensures.local
    ∙ ap₂ with_rule
    (c.in_ok-arg.ensures.shape c.option-trace.ensures.local
    ∙ ap₂ with_rule refl c.option-trace.ensures.rule)
    c.flag-explain.ensures.rule)
    c.flag-json.ensures.rule)
    c.arg-3.ensures
