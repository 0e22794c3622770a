use Rattle.mmc_card.proofs.EraseLemmas.{erases_none}
use Rattle.mmc_card.proofs.laws.no_command_but_erase_widens.Goals as goal

pub returns : goal.returns
returns c = λ card index argument below other. erases_none card card.made.kind card.app index argument below other
