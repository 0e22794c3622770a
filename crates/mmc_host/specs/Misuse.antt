-- What a controller can be asked for: everything else is a misuse of the bus over it.
use Rattle.std.specs.Prelude.{◌&&◌, ◌==◌, ◌||◌, Bool, List, None, Option, Some, false, not, true, ℕ}
use Rattle.mmc_frame.specs.Field.{field}
use Rattle.mmc_frame.specs.Frame.{command_in}
use Rattle.mmc_frame.specs.declared.commands.TheConstants as Index
use Rattle.mmc_host.specs.declared.data.Data.{Data}
use Rattle.mmc_host.specs.declared.data.Data.TheVariants as After
use Rattle.mmc_host.specs.declared.told.HostState.{HostState}

abbrev pub has_data : Data → Bool
has_data After.Nothing = false
has_data (After.Read size blocks) = true
has_data (After.Write blocks) = true

-- Sectors are read or written, or a register comes as a block: the EXT_CSD, the SCR after CMD55, or the switch status of an SD card
-- (SD Physical Layer 6.00, section 4.7.4; JESD84-B51, section 6.10.4).
abbrev pub carries_data : Bool → ℕ → ℕ → Bool
carries_data is_app index argument =
    (index == Index.READ_SINGLE_BLOCK) || (index == Index.READ_MULTIPLE_BLOCK) || (index == Index.WRITE_BLOCK)
    || (index == Index.WRITE_MULTIPLE_BLOCK) || ((index == Index.SEND_IF_COND) && (argument == 0))
    || ((index == Index.SEND_SCR) && is_app)
    || ((index == Index.SWITCH_FUNC) && not is_app && (field 25 24 argument == 0))

-- no data is under way, or the command has none
abbrev pub can_be_sent : HostState → Option (ℕ × ℕ) → Bool
can_be_sent state None = false
can_be_sent state (Some command) =
    not (has_data state.transfer) || not (carries_data state.is_app command.0 command.1)

-- the frame holds such a command
abbrev pub can_send : HostState → List ℕ → Bool
can_send state frame = can_be_sent state (command_in frame)
