-- What the driver's functions leave.
use Rattle.std.specs.Prelude.{◌%◌, ◌*◌, ◌+◌, ◌==◌, ◌||◌, ◌≡◌, Bool, None, Ok, Option, Result, Some, bit_and, false, if◌then◌else◌, is_ok, true, ℕ}
use Rattle.mmc_card.specs.CardAnswer.{CardAnswer}
use Rattle.mmc_frame.specs.Field.{field}
use Rattle.mmc_frame.specs.declared.commands.TheConstants as Index
use Rattle.mmc_host.specs.Hosts.{Answers, answer_heard}
use Rattle.mmc_host.specs.declared.data.Data.{Data}
use Rattle.mmc_card.specs.declared.response.Response.{Response}
use Rattle.mmc_card.specs.declared.response.Response.TheVariants as To
use Rattle.mmc_host.specs.declared.told.Heard.{Heard}
use Rattle.mmc_host.specs.declared.told.Heard.TheVariants as Hears
use Rattle.mmc_host.specs.declared.told.HostCommand.{HostCommand}
use Rattle.mmc_host.specs.declared.told.ResponseFault.{ResponseFault}
use Rattle.mmc_host.specs.declared.told.ResponseFault.TheVariants as Fault
use Rattle.mmc_sdhci.specs.Controller.{ControllerView, Running, Settled, Steps}
use Rattle.mmc_sdhci.specs.CommandLooks.{Dropped, IsShown, Look}
use Rattle.mmc_sdhci.specs.Accesses.{Drops, can_move, is_at_rest, own_bits}
use Rattle.mmc_sdhci.specs.declared.dma.Dma.{Dma}
use Rattle.mmc_sdhci.specs.declared.dma.Dma.TheVariants as Way
use Rattle.mmc_sdhci.specs.declared.mover.Mover.{Mover}
use Rattle.mmc_sdhci.specs.declared.mover.Mover.TheVariants as By
use Rattle.mmc_sdhci.specs.Controller.{has_data, is_set, seen}
use Rattle.mmc_sdhci.specs.CommandLooks.{of_a_command, word}

-- the type of response, with the checks that it has
abbrev pub response_flags : Response → ℕ
response_flags To.Nothing = 0x00
response_flags To.R2 = 0x09
response_flags To.R3 = 0x02
response_flags _ = 0x1a

-- the lower byte of Command: bit 5 is data present, bits 7 and 6 are 11b for CMD12
abbrev pub flags_of : HostCommand → ℕ
flags_of command =
    response_flags command.response + (if has_data command.transfer then 0x20 else 0)
    + (if command.index == Index.STOP_TRANSMISSION then 0xc0 else 0)

abbrev pub run_of : HostCommand → Running
run_of command =
    record {
      index = command.index;
      argument = command.argument;
      flags = flags_of command;
      transfer = command.transfer;
    }

-- Transfer Mode: bit 5 several blocks, bit 1 counted, bit 4 read
abbrev pub several : ℕ → ℕ
several blocks = if blocks == 1 then 0 else 0x22

abbrev pub mode_of : Data → ℕ
mode_of Data.Nothing = 0
mode_of (Data.Read size blocks) = 0x10 + several blocks
mode_of (Data.Write blocks) = several blocks

-- and its bit 0: DMA
abbrev pub moves : Mover → Bool
moves By.Driver = false
moves By.Controller = true

abbrev pub dma_bit : Mover → ℕ
dma_bit mover = if moves mover then 1 else 0

-- Host Control 1, bits 4 and 3: SDMA or none, or ADMA2 with addresses of 32 or 64 bits
abbrev pub selection : Option Dma → ℕ
selection None = 0
selection (Some Way.Sdma) = 0
selection (Some Way.Adma32) = 2
selection (Some Way.Adma64) = 3

-- Block Size, above it that SDMA stops at each 512 KiB, and Block Count
abbrev pub sizes_of : Data → ℕ
sizes_of Data.Nothing = 0
sizes_of (Data.Read size blocks) = size + 0x7000 + 0x10000 * blocks
sizes_of (Data.Write blocks) = 0x7200 + 0x10000 * blocks

-- they are set where there is data
abbrev pub sizes_after : ℕ → Data → ℕ
sizes_after sizes transfer = if has_data transfer then sizes_of transfer else sizes

abbrev pub SetsSizes : ControllerView → Data → ControllerView → Type 0
SetsSizes old transfer new = Settled old (new ≡ record old { sizes = sizes_after old.sizes transfer }) new

-- the interrupts that the driver clears before a command: its own, or those of a command alone while data is under way
abbrev pub older_bits : Data → ℕ
older_bits under_way = if has_data under_way then of_a_command else own_bits

-- nothing that an older command left is there any more, nor of older data where none is under way
abbrev pub is_clear : Data → ControllerView → Bool
is_clear under_way view = bit_and view.status (older_bits under_way) == 0

abbrev pub Clears : ControllerView → Data → ControllerView → Type 0
Clears old under_way new =
    Settled old ((new ≡ record old { status = new.status }) × (is_clear under_way new ≡ true)) new

-- the command runs
abbrev pub begun : ControllerView → ℕ → HostCommand → Mover → ControllerView
begun view status command mover =
    record view {
      status = status;
      sizes = sizes_after view.sizes command.transfer;
      argument = command.argument;
      running = Some (run_of command);
      is_stale = view.is_stale || has_data view.transfer;
      dma = record view.dma { sdma_address = None; is_moving = moves mover };
    }

abbrev pub Begins : ControllerView → HostCommand → Mover → ControllerView → Type 0
Begins old command mover new = Settled old (new ≡ begun old new.status command mover) new

-- Looks until a command is over: the last of them, unless none found it over.
abbrev pub Ends : ControllerView → ℕ → ControllerView → Type 0
Ends old bits new = Settled old ((run : Running) → old.running ≡ Some run → Look old run bits new) new

-- a word of Response is read; nothing changes
abbrev pub ReadsWord : ControllerView → ℕ → ℕ → ControllerView → Type 0
ReadsWord old i value new = Settled old ((value ≡ word old.response i) × (new ≡ old)) new

-- What is read of Response is told, whatever it shows; nothing changes.
abbrev pub Tells : ControllerView → Response → Heard → ControllerView → Type 0
Tells old response heard new =
    Settled old
    ((new ≡ old) × ((index : ℕ) (flags : ℕ) (answer : CardAnswer) → flags % 32 ≡ response_flags response
    → IsShown flags index old.response answer → answer ≡ answer_heard response index (Ok heard))) new

-- a word was heard
abbrev pub IsWord : Heard → Type 0
IsWord (Hears.Word word) = Unit {0}
IsWord _ = ⊥

-- A step of the card, after which this data is under way; what is set and built in is as before.
pub record Moves (old : ControllerView) (Step : Type 0) (left : Data) (new : ControllerView) : Type 0 where
  pub step : Steps old Step new
  pub transfer : new.transfer ≡ left
  pub settings : new.settings ≡ old.settings
  pub built : new.built ≡ old.built

-- One command: what the host heard is the card's answer, and its data is to come where it was heard.
abbrev pub Sends : ControllerView → HostCommand → Result Heard ResponseFault → ControllerView → Type 0
Sends old command heard new =
    Settled old
    (Moves old
    (Answers (seen old) command.index command.argument (answer_heard command.response command.index heard) (seen new))
    (if is_ok heard then command.transfer else Data.Nothing) new) new

-- DMA is asked for where it can be
abbrev pub CanMoveBy : Mover → ControllerView → Data → Type 0
CanMoveBy By.Driver view transfer = Unit {0}
CanMoveBy By.Controller view transfer =
    view.is_kept ≡ true → (view.transfer ≡ Data.Nothing) × (can_move view transfer ≡ true)

-- DMA: after a command that was heard the controller moves its data; what is lent stays so.
abbrev pub is_moved_by : Mover → Result Heard ResponseFault → Bool
is_moved_by By.Driver heard = false
is_moved_by By.Controller heard = is_ok heard

abbrev pub KeepsLent : ControllerView → Bool → ControllerView → Type 0
KeepsLent old moving new = Settled old (new.dma ≡ record old.dma { sdma_address = None; is_moving = moving }) new

-- all is at rest but the data that is moved
abbrev pub unmoved : ControllerView → ControllerView
unmoved view = record view { dma = record view.dma { is_moving = false } }

abbrev pub RestsButMoves : ControllerView → Type 0
RestsButMoves view = view.is_kept ≡ true → is_at_rest (unmoved view) ≡ true

-- this data is under way
abbrev pub IsUnderWay : ControllerView → Data → Type 0
IsUnderWay view transfer = view.is_kept ≡ true → view.transfer ≡ transfer

-- the command line and the data line are reset
abbrev pub ResetsLine : ControllerView → ControllerView → Type 0
ResetsLine old new = Settled old (Dropped old old.running new) new

abbrev pub ResetsData : ControllerView → ControllerView → Type 0
ResetsData old new = Settled old (Drops old new) new

-- first the one, then the other
abbrev pub LosesAll : ControllerView → ControllerView → Type 0
LosesAll old new = (between : ControllerView) × ResetsLine old between × ResetsData between new

-- nothing is under way, and what is set and built in is as before
abbrev pub KeepsSettings : ControllerView → ControllerView → Type 0
KeepsSettings old new =
    Settled old
    ((new.transfer ≡ Data.Nothing) × (new.settings ≡ old.settings) × (new.built ≡ old.built)) new

-- why no response was heard: bits 17, 18 and 19 of the interrupts
abbrev pub fault_in : ℕ → ResponseFault
fault_in bits =
    if field 17 17 bits == 1 then Fault.Check
    else (if field 18 18 bits == 1 then Fault.EndBit else (if field 19 19 bits == 1 then Fault.Index else Fault.Timeout))

-- all is set that a command needs
abbrev pub IsSet : ControllerView → Type 0
IsSet view = view.is_kept ≡ true → is_set view.settings ≡ true

-- a command runs
abbrev pub IsRunning : ControllerView → Type 0
IsRunning view = view.is_kept ≡ true → (run : Running) × (view.running ≡ Some run)

-- no data is under way where some is asked for
abbrev pub IsIdleFor : ControllerView → Data → Type 0
IsIdleFor view transfer = view.is_kept ≡ true → has_data transfer ≡ true → has_data view.transfer ≡ false
