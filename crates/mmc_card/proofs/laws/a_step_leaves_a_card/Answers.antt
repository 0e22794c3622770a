use Rattle.mmc_card.proofs.CardAll.{poll_leaves_card, read_leaves_card}
use Rattle.mmc_card.proofs.Passing.{block_leaves_card, step_leaves_card}
use Rattle.mmc_card.proofs.laws.a_step_leaves_a_card.Goals as goal

pub returns : goal.returns
returns c = record {
  command = λ old new frame reply step k. step_leaves_card old frame reply new step k;
  poll = λ old new said step k. poll_leaves_card old said new step k;
  write = λ old new block got size step k. block_leaves_card old block got new size step k;
  read = λ old new size got block step k. read_leaves_card old size got block new step k;
}
