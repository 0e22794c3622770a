-- Which commands find an error where one is to be found.
use Rattle.std.specs.Prelude.{◌&&◌, Bool, None, Option, Some, false, not, ℕ}
use Rattle.mmc_card.specs.Card.{Card}
use Rattle.mmc_card.specs.Rows.{command_of, is_foreign, is_legal, may_find}
use Rattle.mmc_card.specs.declared.command.Command.{Command}

-- a command to this card, legal now, that an error may keep from being carried out
abbrev pub may_find_now : Command → Card → ℕ → Bool
may_find_now command card argument =
    may_find command && not (is_foreign command card argument) && is_legal command card

abbrev pub can_find : Card → Option (ℕ × ℕ) → Bool
can_find card (Some command) = may_find_now (command_of card.made.kind card.app command.0) card command.1
can_find card None = false
