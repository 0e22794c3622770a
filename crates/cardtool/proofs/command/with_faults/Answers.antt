use Rattle.std.proofs.Common.{ap₂, refl, ◌∙◌}
use Rattle.std.proofs.lemmas.Result.{IfOk-weaker}
use Rattle.clap.specs.Words.{with_rule}
use Rattle.cardtool.proofs.command.with_faults.Goals as goal

pub returns : goal.returns
returns c =
    IfOk-weaker c.arg-3.result _ _
    (λ r h. h.shape c.option-seed.ensures.local
    ∙ ap₂ with_rule
    (c.in_ok-arg-2.ensures.shape c.repeated-fault.ensures.local
    ∙ ap₂ with_rule
    (c.in_ok-arg.ensures.shape c.flag-stats.ensures.local
    ∙ ap₂ with_rule refl c.flag-stats.ensures.rule)
    c.repeated-fault.ensures.rule)
    c.option-seed.ensures.rule)
    c.arg-3.ensures
