use Rattle.mmc_card.proofs.CardAll.{new_card}
use Rattle.mmc_card.proofs.laws.a_card_after_power_on_is_one.Goals as goal

pub returns : goal.returns
returns c = new_card
