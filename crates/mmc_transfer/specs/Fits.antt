-- How a run goes over any bus: which phases there are, and how many exchanges are left.
use Rattle.std.specs.Prelude.{◌&&◌, ◌*◌, ◌+◌, ◌-◌, ◌==◌, ◌||◌, Bool, if◌then◌else◌, nat_lt, true, ℕ}
use Rattle.mmc_bus.specs.declared.wait.TheConstants.{MAX_POLLS}
use Rattle.mmc_switch.specs.Ending.{ending_fits, ending_left}
use Rattle.mmc_switch.specs.declared.ending.TheConstants.{EXCHANGES_OF_AN_ENDING}
use Rattle.mmc_transfer.specs.declared.phase.Phase.{Phase}
use Rattle.mmc_transfer.specs.declared.phase.Phase.TheVariants.{Block, Other}
use Rattle.mmc_transfer.specs.declared.phase.Step.{Step}
use Rattle.mmc_transfer.specs.declared.phase.Step.TheVariants.{Command, End, Pause, Preset, Stop}
use Rattle.mmc_transfer.specs.declared.turns.TheConstants.{EXCHANGES_OF_A_BLOCK}

-- The card knows how many blocks there are: one, or by CMD23.
abbrev pub is_counted_by : ℕ → Bool → Bool
is_counted_by count cmd23 = (count == 1) || cmd23

-- A run begins with CMD23, where the card knows it and there are several blocks.
abbrev pub first_of : ℕ → Bool → Step
first_of count cmd23 = if nat_lt 1 count && cmd23 then Preset else Command

-- The phases of a run of so many blocks, with CMD23 or not: a count is preset where there are several blocks, no more
-- blocks than these are moved, and a card is polled so often; a pause comes after a block, after the last one only where the
-- card doesn't know that it was the last.
abbrev pub step_fits : ℕ → Bool → Step → Bool
step_fits count cmd23 Preset = cmd23 && nat_lt 1 count
step_fits count cmd23 (Pause done polls) =
    nat_lt 0 done && nat_lt done (if is_counted_by count cmd23 then count else count + 1) && nat_lt polls MAX_POLLS
step_fits count cmd23 (End ending) = ending_fits ending
step_fits count cmd23 _ = true

abbrev pub phase_fits : ℕ → Bool → Phase → Bool
phase_fits count cmd23 (Block done) = nat_lt done count
phase_fits count cmd23 (Other step) = step_fits count cmd23 step

-- The exchanges that are left at most: those of the blocks to come, and what ends the run.
abbrev pub end_of : ℕ → Bool → ℕ
end_of count cmd23 = if is_counted_by count cmd23 then EXCHANGES_OF_AN_ENDING else EXCHANGES_OF_AN_ENDING + 1

abbrev pub step_left : ℕ → Bool → Step → ℕ
step_left count cmd23 Preset = EXCHANGES_OF_A_BLOCK * count + end_of count cmd23 + 2
step_left count cmd23 Command = EXCHANGES_OF_A_BLOCK * count + end_of count cmd23 + 1
step_left count cmd23 (Pause done polls) =
    EXCHANGES_OF_A_BLOCK * (count - done) + end_of count cmd23 + (MAX_POLLS - polls)
step_left count cmd23 Stop = EXCHANGES_OF_AN_ENDING + 1
step_left count cmd23 (End ending) = ending_left ending

abbrev pub phase_left : ℕ → Bool → Phase → ℕ
phase_left count cmd23 (Block done) = EXCHANGES_OF_A_BLOCK * (count - done) + end_of count cmd23
phase_left count cmd23 (Other step) = step_left count cmd23 step
