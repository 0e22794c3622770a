use Rattle.mmc_card.proofs.NarrowSteps.{poll_keeps, read_keeps}
use Rattle.mmc_card.proofs.Passing.{block_adds, step_widens}
use Rattle.mmc_card.proofs.laws.a_step_keeps_what_a_card_is_made_with.Goals as goal

pub returns : goal.returns
returns c = record {
  command = λ old new frame reply step. (step_widens old frame reply new step).carried;
  poll = λ old new said step. (poll_keeps old said new step).carried;
  write = λ old new block got step. (block_adds old block got new step).carried;
  read = λ old new size got block step. (read_keeps old size got block new step).carried;
}
