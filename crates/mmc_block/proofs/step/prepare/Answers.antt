use Rattle.std.proofs.Common.{subst, sym}
use Rattle.mmc_block.specs.Healing.{StepHeals}
use Rattle.mmc_block.specs.Step.{Stepped}
use Rattle.mmc_switch.specs.declared.progress.Progress.{Progress}
use Rattle.mmc_block.specs.declared.service.Stage.{Stage}
use Rattle.mmc_block.specs.declared.service.Stage.TheVariants.{At}
use Rattle.mmc_block.proofs.step.prepare.Goals as goal

pub returns-clause-stepped : goal.returns-clause-stepped
returns-clause-stepped g c pace =
    let stage : Stage = At c.in-Serving-At.stands in
    rw (← c.replace.ensures.value, c.in-Serving-At.is, c.in-Serving-At.field-0-is)
    (subst (λ (o : Progress Stage). Stepped pace stage c.args.group.now (g.B.Bus.view c.args.bus.now) o c.args.group.now
    (g.B.Bus.view c.settle_or_select.new.bus)) (sym (c.phase_after.ensures.left stage)) (c.settle_or_select.ensures.stepped pace))

pub returns-clause-healed : goal.returns-clause-healed
returns-clause-healed g c =
    let stage : Stage = At c.in-Serving-At.stands in
    rw (← c.replace.ensures.value, c.in-Serving-At.is, c.in-Serving-At.field-0-is)
    (subst (λ (o : Progress Stage). StepHeals stage (g.B.Bus.view c.args.bus.now) c.args.healed.now o
    (g.B.Bus.view c.settle_or_select.new.bus) c.settle_or_select.new.healed) (sym (c.phase_after.ensures.left stage)) c.settle_or_select.ensures.healed)
