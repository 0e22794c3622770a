use Rattle.mmc_card.proofs.NarrowSteps.{poll_keeps, read_keeps}
use Rattle.mmc_card.proofs.Passing.{block_adds, step_widens}
use Rattle.mmc_card.proofs.laws.a_step_narrows_what_sectors_may_hold.Goals as goal

pub returns : goal.returns
returns c = record {
  command = λ old new frame reply step. (step_widens old frame reply new step).widens;
  poll = λ old new said step. (poll_keeps old said new step).narrows;
  write = λ old new block got step. (block_adds old block got new step).adds;
  read = λ old new size got block step. (read_keeps old size got block new step).narrows;
}
