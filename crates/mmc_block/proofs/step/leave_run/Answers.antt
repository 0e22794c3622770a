use Rattle.mmc_block.proofs.step.leave_run.Goals as goal

pub returns-clause-left : goal.returns-clause-left
returns-clause-left c =
    rw (← c.replace.ensures.value, c.in-Serving-Running.is, c.in-Serving-Running.field-0-is) c.phase_after_run.ensures.left
