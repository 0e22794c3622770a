use Rattle.mmc_transfer.proofs.TurnLemmas.{begins_run}
use Rattle.mmc_transfer.proofs.run.Run.begin.Goals as goal

pub returns-clause-running : goal.returns-clause-running
returns-clause-running c view blocks ready = begins_run _ blocks view c.first_step-first.result c.first_step-first.ensures ready
