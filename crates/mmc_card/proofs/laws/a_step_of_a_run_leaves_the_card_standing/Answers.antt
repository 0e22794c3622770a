use Rattle.mmc_card.proofs.Passing.{block_stands, step_stands}
use Rattle.mmc_card.proofs.Standing.{poll_stands, read_stands}
use Rattle.mmc_card.proofs.laws.a_step_of_a_run_leaves_the_card_standing.Goals as goal

pub returns : goal.returns
returns c = record {
  command = λ old new frame reply run step. step_stands old frame reply new run step;
  poll = λ old new said step. poll_stands old said new step;
  write = λ old new block got step. block_stands old block got new step;
  read = λ old new size got block step. read_stands old size got block new step;
}
