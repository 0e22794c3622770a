use Rattle.mmc_erase.proofs.TurnLemmas.{begins_run}
use Rattle.mmc_erase.proofs.run.EraseRun.begin.Goals as goal

pub returns-clause-running : goal.returns-clause-running
returns-clause-running c view ready = begins_run _ view ready
