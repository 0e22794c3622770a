use Rattle.mmc_block.proofs.FaultLemmas.{failure_takes_faults, failures_take_faults}
use Rattle.mmc_block.proofs.laws.a_failure_takes_four_faults.Goals as goal

pub returns-clause-each : goal.returns-clause-each
returns-clause-each c = failures_take_faults

pub returns-clause-any : goal.returns-clause-any
returns-clause-any c = failure_takes_faults
