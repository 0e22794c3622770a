-- What a host controller has been told so far, command by command.
use Rattle.std.specs.Prelude.{◌%◌, ◌*◌, ◌+◌, ◌&&◌, ◌-◌, ◌<◌, ◌==◌, ◌||◌, ◌≡◌, ◌≤◌, ◌⊎◌, Bool, false, if◌then◌else◌, min, nat_lt, not, suc, true, zero, ℕ}
use Rattle.mmc_frame.specs.Field.{field}
use Rattle.mmc_frame.specs.declared.commands.TheConstants as Index
use Rattle.mmc_frame.specs.declared.kind.Kind.{Kind}
use Rattle.mmc_card.specs.Rows.{command_of}
use Rattle.mmc_host.specs.Meaning.{IsSentTo}
use Rattle.mmc_host.specs.Table.{blocks_of, data_of, moves_several, response_of}
use Rattle.mmc_card.specs.declared.exchange.DataIn.{DataIn}
use Rattle.mmc_card.specs.declared.exchange.DataIn.TheVariants as Received
use Rattle.mmc_card.specs.declared.exchange.DataOut.{DataOut}
use Rattle.mmc_card.specs.declared.exchange.DataOut.TheVariants as Sent
use Rattle.mmc_card.specs.declared.exchange.Lines.{Lines}
use Rattle.mmc_card.specs.declared.exchange.Timing.TheVariants.{Default}
use Rattle.mmc_card.specs.declared.exchange.Width.TheVariants.{One}
use Rattle.mmc_host.specs.declared.data.Data.{Data}
use Rattle.mmc_host.specs.declared.told.HostCommand.{HostCommand}
use Rattle.mmc_host.specs.declared.told.HostState.{HostState}
use Rattle.mmc_host.specs.declared.told.Ios.{Ios}
use Rattle.mmc_card.specs.declared.response.Response.{Response}
use Rattle.mmc_card.specs.declared.response.Response.TheVariants.{R1b}
use Rattle.mmc_host.specs.declared.work.Work.{Work}
use Rattle.mmc_host.specs.declared.work.Work.TheVariants.{Erase, Settling, Switch, Write}

abbrev pub lines_of : Ios → Lines
lines_of ios = record { width = ios.width; timing = ios.timing }

-- before the first command
abbrev pub begun : HostState
begun =
    record {
      ios = record { width = One; timing = Default; is_identifying = true };
      is_identifying = true;
      is_app = false;
      count = 0;
      transfer = Data.Nothing;
      work = Settling;
      erase_start = 0;
      erase_end = 0;
      paused = 0;
    }

-- between two commands to a card that CMD7 has selected, on these lines
abbrev pub resting : Lines → HostState
resting lines =
    record {
      ios = record { width = lines.width; timing = lines.timing; is_identifying = false };
      is_identifying = false;
      is_app = false;
      count = 0;
      transfer = Data.Nothing;
      work = Settling;
      erase_start = 0;
      erase_end = 0;
      paused = 0;
    }

-- between two commands to a card that is selected, whatever its lines and clock
abbrev pub IsBetween : HostState → Type 0
IsBetween state = state ≡ record (resting (lines_of state.ios)) { ios = state.ios }

-- An erase is told by two commands where it begins and ends (SD Physical Layer 6.00, section 4.3.5; JESD84-B51, section 6.6.9).
abbrev pub begins_erase : ℕ → Bool
begins_erase index = (index == Index.ERASE_WR_BLK_START) || (index == Index.ERASE_GROUP_START)

abbrev pub ends_erase : ℕ → Bool
ends_erase index = (index == Index.ERASE_WR_BLK_END) || (index == Index.ERASE_GROUP_END)

-- the card may be busy after such a response
abbrev pub is_busy_after : Response → Bool
is_busy_after R1b = true
is_busy_after _ = false

abbrev pub is_written : ℕ → Bool
is_written index =
    (index == Index.STOP_TRANSMISSION) || (index == Index.WRITE_BLOCK) || (index == Index.WRITE_MULTIPLE_BLOCK)

-- what a command sets a card to that is busy then; every other leaves it at what it was
abbrev pub work_after : HostState → HostCommand → Work
work_after state command =
    if command.index == Index.SELECT_CARD then Settling
    else if is_written command.index then Write
    else if (command.index == Index.SWITCH_FUNC) && is_busy_after command.response then Switch
    else if command.index == Index.ERASE then Erase (state.erase_end - state.erase_start)
    else state.work

-- for how many microseconds a host looks at it, sixteen times at most
abbrev pub micros_of : Work → ℕ
micros_of Settling = 32000
micros_of Write = 32000
micros_of Switch = 160000
micros_of (Erase span) = min 900000000 (10000000 + 16000 * (span + 1))

-- after a command: identification begins with CMD0, and ends when CMD7 is answered
abbrev pub sent : HostState → HostCommand → Bool → HostState
sent state command is_answered =
    record {
      ios = state.ios;
      is_identifying = (command.index == Index.GO_IDLE_STATE)
          || (state.is_identifying && not ((command.index == Index.SELECT_CARD) && is_answered));
      is_app = (command.index == Index.APP_CMD) && is_answered;
      count = if (command.index == Index.SET_BLOCK_COUNT) && is_answered then field 15 0 command.argument else 0;
      transfer = if is_answered then command.transfer else Data.Nothing;
      work = work_after state command;
      erase_start = if begins_erase command.index then command.argument else state.erase_start;
      erase_end = if ends_erase command.index then command.argument else state.erase_end;
      paused = 0;
    }

-- one block fewer to come
abbrev pub fewer : ℕ → (ℕ → Data) → Data
fewer count rest = if nat_lt 1 count then rest (count - 1) else Data.Nothing

abbrev pub less_one : Data → Data
less_one Data.Nothing = Data.Nothing
less_one (Data.Read size blocks) = fewer blocks (λ left. Data.Read size left)
less_one (Data.Write blocks) = fewer blocks (λ left. Data.Write left)

-- and so many fewer
abbrev pub less_by : ℕ → Data → Data
less_by zero transfer = transfer
less_by (suc done) transfer = less_one (less_by done transfer)

-- a controller moves blocks of whole words of 32 bits, of 512 bytes at most
abbrev pub AreWords : ℕ → Type 0
AreWords size = (size ≤ 512) × (size % 4 ≡ 0)

-- blocks that a controller can move: 1 to 65,535
abbrev pub AreMovable : Data → Type 0
AreMovable Data.Nothing = Unit {0}
AreMovable (Data.Read size blocks) = AreWords size × ((1 ≤ blocks) × (blocks < 0x10000))
AreMovable (Data.Write blocks) = (1 ≤ blocks) × (blocks < 0x10000)

-- after a block; one that failed ends the data
abbrev pub block_passed : HostState → Bool → HostState
block_passed state is_good = record state { transfer = if is_good then less_one state.transfer else Data.Nothing }

abbrev pub is_good : DataIn → Bool
is_good Received.Good = true
is_good _ = false

abbrev pub is_accepted : DataOut → Bool
is_accepted Sent.Accepted = true
is_accepted _ = false

-- a block of this length is to come, or one of 512 bytes is to go
abbrev pub IsToCome : HostState → ℕ → Type 0
IsToCome state size = (blocks : ℕ) × (state.transfer ≡ Data.Read size blocks)

abbrev pub IsToGo : HostState → Type 0
IsToGo state = (blocks : ℕ) × (state.transfer ≡ Data.Write blocks)

-- how many blocks there are
abbrev pub blocks_in : Data → ℕ
blocks_in Data.Nothing = 0
blocks_in (Data.Read size blocks) = blocks
blocks_in (Data.Write blocks) = blocks

-- CMD18 and CMD25 are told with as many blocks as are preset, and where none are, as will be moved.
abbrev pub IsCounted : ℕ → ℕ → ℕ → Data → Type 0
IsCounted count moved index transfer = moves_several index ≡ true → blocks_in transfer ≡ blocks_of count moved

-- response and data are those of the table, whichever kind the card is; a card that wasn't told how many blocks there are takes any
-- number
abbrev pub IsTold : HostState → HostCommand → Type 0
IsTold state command =
    (kind : Kind) → IsSentTo kind state.is_app command.index command.argument
    → (command.response ≡ response_of (command_of kind state.is_app command.index))
    × (command.transfer ≡ data_of (command_of kind state.is_app command.index) state.count (blocks_in command.transfer))

-- a command with data is sent only where none is under way
abbrev pub IsFree : Data → HostCommand → Type 0
IsFree under_way command = (command.transfer ≡ Data.Nothing) ⊎ (under_way ≡ Data.Nothing)
