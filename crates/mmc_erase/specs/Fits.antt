-- How a run goes over any bus: which phases there are, and how many exchanges are left.
use Rattle.std.specs.Prelude.{◌+◌, Bool, true, ℕ}
use Rattle.mmc_switch.specs.Ending.{ending_fits, ending_left}
use Rattle.mmc_switch.specs.declared.ending.TheConstants.{EXCHANGES_OF_AN_ENDING}
use Rattle.mmc_erase.specs.declared.phase.Phase.{Phase}
use Rattle.mmc_erase.specs.declared.phase.Phase.TheVariants.{End, Erase, First, Last}

abbrev pub phase_fits : Phase → Bool
phase_fits (End ending) = ending_fits ending
phase_fits _ = true

-- the exchanges that are left at most
abbrev pub phase_left : Phase → ℕ
phase_left First = EXCHANGES_OF_AN_ENDING + 3
phase_left Last = EXCHANGES_OF_AN_ENDING + 2
phase_left Erase = EXCHANGES_OF_AN_ENDING + 1
phase_left (End ending) = ending_left ending
