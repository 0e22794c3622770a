use Rattle.mmc_card.proofs.Passing.{step_switches}
use Rattle.mmc_card.proofs.laws.a_switch_of_the_partition_leaves_the_card_standing.Goals as goal

pub returns : goal.returns
returns c =
    λ old new part frame index argument reply switch command step. step_switches part old frame index argument reply
    new switch command step
