use Rattle.mmc_block.proofs.step.begin_run_here.Goals as goal

pub returns : goal.returns
returns c =
    rw (← c.replace.ensures.value, c.in-Serving-At-Ready.is, c.in-Serving-At-Ready.field-0-is, c.in-Serving-At-Ready.field-0-0-is)
    c.begin_run.ensures
