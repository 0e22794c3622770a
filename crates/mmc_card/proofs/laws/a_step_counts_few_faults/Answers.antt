use Rattle.mmc_card.proofs.FaultCount.{poll_counts, read_counts}
use Rattle.mmc_card.proofs.Passing.{block_counts, step_counts}
use Rattle.mmc_card.proofs.laws.a_step_counts_few_faults.Goals as goal

pub returns : goal.returns
returns c = record {
  command = λ old new frame reply step. step_counts old frame reply new step;
  poll = λ old new said step. poll_counts old said new step;
  write = λ old new block got step. block_counts old block got new step;
  read = λ old new size got block step. read_counts old size got block new step;
}
