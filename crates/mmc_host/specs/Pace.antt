-- How long a card is left alone after what it said (docs/PORTING.md, "Pace").
use Rattle.std.specs.Prelude.{◌&&◌, ◌==◌, ◌||◌, ◌≡◌, Bool, List, Ok, Result, Some, if◌then◌else◌, nat_lt, ℕ}
use Rattle.mmc_frame.specs.Field.{field}
use Rattle.mmc_frame.specs.Frame.{command_in}
use Rattle.mmc_frame.specs.declared.commands.TheConstants as Index
use Rattle.mmc_card.specs.Faults.{Spells}
use Rattle.mmc_card.specs.declared.exchange.Reply.{Reply}
use Rattle.mmc_host.specs.Hosts.{answer_heard, is_slow_for}
use Rattle.mmc_host.specs.declared.told.Heard.{Heard}
use Rattle.mmc_host.specs.declared.told.Heard.TheVariants.{Word}
use Rattle.mmc_host.specs.declared.told.HostCommand.{HostCommand}
use Rattle.mmc_host.specs.declared.told.HostState.{HostState}
use Rattle.mmc_host.specs.declared.told.ResponseFault.{ResponseFault}

-- CMD1, or ACMD41
abbrev pub is_inquiry : Bool → ℕ → Bool
is_inquiry is_app index = (index == Index.SEND_OP_COND) || ((index == Index.SD_SEND_OP_COND) && is_app)

-- the state prg, or tran without READY_FOR_DATA
abbrev pub shows_work : ℕ → Bool
shows_work status = (field 12 9 status == 7) || ((field 12 9 status == 4) && (field 8 8 status == 0))

-- for how many microseconds: while a card isn't ready, and while a status shows it at work
abbrev pub pause_after : Bool → HostCommand → Result Heard ResponseFault → ℕ
pause_after is_app command (Ok (Word word)) =
    if is_inquiry is_app command.index && nat_lt word 0x80000000 then 64000
    else if (command.index == Index.SEND_STATUS) && shows_work word then 32000
    else 0
pause_after is_app command heard = 0

-- the clock of identification is told just where it is wanted
abbrev pub IsClocked : HostState → ℕ → HostState → Type 0
IsClocked old index new = new.ios.is_identifying ≡ is_slow_for old index

-- the pause after a command is what its reply asks for
abbrev pub IsPaced : Bool → HostCommand → Reply → ℕ → Type 0
IsPaced is_app command reply micros =
    (heard : Result Heard ResponseFault) × Spells (answer_heard command.response command.index heard) reply
    × (micros ≡ pause_after is_app command heard)

-- the command of a frame is sent at such a clock, and the card is left alone after it so long
pub record IsTimed (old : HostState) (frame : List ℕ) (reply : Reply) (new : HostState) : Type 0 where
  pub command : HostCommand
  pub holds : command_in frame ≡ Some (command.index, command.argument)
  pub clock : IsClocked old command.index new
  pub pace : IsPaced old.is_app command reply new.paused
