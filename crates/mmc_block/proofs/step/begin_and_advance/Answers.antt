use Rattle.mmc_block.proofs.StepLemmas.{out_stepped}
use Rattle.mmc_block.proofs.step.begin_and_advance.Goals as goal

pub returns-clause-stepped : goal.returns-clause-stepped
returns-clause-stepped g c =
    out_stepped c.args.pace c.args.phase.now c.begin_run_here.new.phase c.advance.new.phase c.args.group.now c.advance.new.group _ _
    c.begin_run_here.ensures c.advance.ensures.stepped
