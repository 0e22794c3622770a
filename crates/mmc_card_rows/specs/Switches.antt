-- What CMD6 of eMMC switches in the card in memory.
use Rattle.std.specs.Prelude.{None, Option, Some}
use Rattle.mmc_card.specs.Card.{Card}
use Rattle.mmc_card.specs.declared.exchange.Timing.TheVariants.{High}
use Rattle.mmc_card.specs.declared.exchange.Width.TheVariants.{Eight, Four}
use Rattle.mmc_card_rows.specs.declared.switch_rows.SwitchTo.{SwitchTo}
use Rattle.mmc_card_rows.specs.declared.switch_rows.SwitchTo.TheVariants.{Access, EightLines, EraseGroupDef, FourLines, HighSpeed}

abbrev pub switched_to : SwitchTo → Card → Card
switched_to EraseGroupDef card = record card { erase_group_def = 1 }
switched_to EightLines card = record card { width = Eight }
switched_to FourLines card = record card { width = Four }
switched_to HighSpeed card = record card { timing = High }
switched_to (Access part) card = record card { part = part }

abbrev pub to_card : Option SwitchTo → Card → Option Card
to_card (Some to) card = Some (switched_to to card)
to_card None card = None
