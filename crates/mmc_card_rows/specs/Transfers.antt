-- Which commands write.
use Rattle.std.specs.Prelude.{Bool, None, Option, Some, false, true, ℕ}
use Rattle.mmc_card.specs.Card.{Card}
use Rattle.mmc_card.specs.Rows.{command_of}
use Rattle.mmc_card.specs.declared.command.Command.{Command}
use Rattle.mmc_card.specs.declared.command.Command.TheVariants.{WriteBlock, WriteMultipleBlock}

-- CMD24 or CMD25
abbrev pub is_write : Command → Bool
is_write WriteBlock = true
is_write WriteMultipleBlock = true
is_write _ = false

abbrev pub is_write_frame : Card → Option (ℕ × ℕ) → Bool
is_write_frame card (Some command) = is_write (command_of card.made.kind card.app command.0)
is_write_frame card None = false
