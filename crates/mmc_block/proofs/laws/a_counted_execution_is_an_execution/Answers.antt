use Rattle.mmc_block.proofs.ExecutionLemmas.{counted_run}
use Rattle.mmc_block.proofs.laws.a_counted_execution_is_an_execution.Goals as goal

pub returns : goal.returns
returns c = counted_run
