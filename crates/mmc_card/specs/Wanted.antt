-- The response that a host wants of a command (SD Physical Layer 6.00, section 4.7.4; JESD84-B51, section 6.10.4).
use Rattle.mmc_card.specs.CommandRows.{row_of}
use Rattle.mmc_card.specs.declared.command.Command.{Command}
use Rattle.mmc_card.specs.declared.exchange.Want.{Want}
use Rattle.mmc_card.specs.declared.exchange.Want.TheVariants.{Long, Nothing, Short}
use Rattle.mmc_card.specs.declared.response.Response.{Response}
use Rattle.mmc_card.specs.declared.response.Response.TheVariants as To

-- how long a response is
abbrev pub want_of : Response → Want
want_of To.Nothing = Nothing
want_of To.R2 = Long
want_of _ = Short

abbrev pub response_to : Command → Want
response_to command = want_of (row_of command).response
