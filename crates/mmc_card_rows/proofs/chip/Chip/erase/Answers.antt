use Rattle.mmc_card_rows.proofs.chip.Chip.erase.Goals as goal

pub returns : goal.returns
returns c = rw c.in-Both.is c.erase_between.ensures
