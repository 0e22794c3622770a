-- What holds of each step of a card, with a fault or without one.
use Rattle.std.specs.Prelude.{◌+◌, ◌≡◌, ◌≤◌, ◌⊎◌, Bool, None, Option, Some, [], false, length, true, ℕ}
use Rattle.mmc_frame.specs.declared.card_state.State.TheVariants.{Data, Idle, Prg, Rcv}
use Rattle.mmc_card.specs.declared.exchange.Timing.{Timing}
use Rattle.mmc_card.specs.declared.exchange.Width.{Width}
use Rattle.mmc_card.specs.declared.part.Part.{Part}
use Rattle.mmc_card.specs.Blocks.{next_written}
use Rattle.mmc_card.specs.Card.{Both, Card, FromBytes, FromSectors, Held, IsApart, Source, holds, is_in, is_selected}
use Rattle.mmc_card.specs.Card.{stored}
use Rattle.mmc_card.specs.Faults.{Passes}
use Rattle.mmc_card.specs.Made.{first_rca}
use Rattle.mmc_card.specs.declared.command.Command.{Command}
use Rattle.mmc_card.specs.declared.command.Command.TheVariants.{Erase, EraseEnd, EraseStart, ReadMultipleBlock}
use Rattle.mmc_card.specs.declared.command.Command.TheVariants.{ReadSingleBlock, SendStatus, SetBlockCount}
use Rattle.mmc_card.specs.declared.command.Command.TheVariants.{StopTransmission, Unknown, WriteBlock}
use Rattle.mmc_card.specs.declared.command.Command.TheVariants.{WriteMultipleBlock}
use Rattle.mmc_card.specs.Rows.{command_of}
use Rattle.mmc_card.specs.RowsErase.{erasing, is_trim}
use Rattle.mmc_card.specs.RowsSwitch.{partition_config_for, write_byte}
use Rattle.mmc_frame.specs.declared.kind.Kind.TheVariants.{Mmc}
use Rattle.mmc_frame.specs.declared.commands.TheConstants as Index
use Rattle.mmc_card.specs.Sectors.{Change, IsIn, Sector, Sets, maybe_changed}
use Rattle.mmc_card.specs.BusView.{BusView}

-- the card was made so before too, and each partition has as many sectors as before
pub record Carried (old new : Card) : Type 0 where
  pub made : new.made ≡ old.made
  pub sizes : (part : Part) → length (stored new part) ≡ length (stored old part)

-- What a command may erase: the sectors of a CMD38 for which both addresses are held, and of any other command none.
abbrev pub erased_by_held : Card → ℕ → Held → Option Change
erased_by_held card argument (Both first last) = Some (erasing card (is_trim card argument) first last)
erased_by_held card argument _ = None

abbrev pub erased_by_command : Command → Card → ℕ → Option Change
erased_by_command Erase card argument = erased_by_held card argument card.erase
erased_by_command _ card argument = None

abbrev pub erased_by : Card → Option (ℕ × ℕ) → Option Change
erased_by card (Some command) =
    erased_by_command (command_of card.made.kind card.app command.0) card command.1
erased_by card None = None

-- after a change, if there is one, of which each sector was carried out or not
abbrev pub maybe_erased : Option Change → Sets → Sets
maybe_erased (Some change) sets = maybe_changed change sets
maybe_erased None sets = sets

-- the block is to be the next sector of the write that runs
pub record IsNextWritten (card : Card) (part : Part) (sector : ℕ) (block value : Sector) : Type 0 where
  pub receives : is_in card.state Rcv ≡ true
  pub here : card.part ≡ part
  pub next : sector ≡ next_written card
  pub offered : value ≡ block

-- each sector may hold what it might before, or it is the write's next one and may hold the block too
abbrev pub WithinOrAccepted : Card → Sector → Card → Type 0
WithinOrAccepted old block new =
    (part : Part) (sector : ℕ) (value : Sector) → IsIn (holds new part sector) value
    → IsIn (holds old part sector) value ⊎ IsNextWritten old part sector block value

-- where and how a card is selected
pub record Setting : Type 0 where
  pub rca : ℕ
  pub part : Part
  pub width : Width
  pub timing : Timing
  pub erase_group_def : ℕ
  pub block_length : ℕ

abbrev pub setting_of : Card → Setting
setting_of card =
    record {
      rca = card.rca;
      part = card.part;
      width = card.width;
      timing = card.timing;
      erase_group_def = card.erase_group_def;
      block_length = card.block_length;
    }

-- as after CMD0, error bits apart
pub record IsAfterReset (card : Card) : Type 0 where
  pub state : card.state ≡ Idle
  pub rca : card.rca ≡ first_rca card.made.kind
  pub apart : IsApart card
  pub app : card.app ≡ false
  pub inquiries : card.inquiries ≡ 0
  pub polled : card.polled ≡ 0
  pub values : card.values ≡ []

-- the timing once the card has sent what it is to send
abbrev pub timing_once_sent : Source → Timing → Timing
timing_once_sent FromSectors now = now
timing_once_sent (FromBytes bytes timing) now = timing

-- The card stands: it is selected with this setting, also once it has sent what it is to send, or it is as after CMD0.
pub record Stands (setting : Setting) (card : Card) : Type 0 where
  pub selected : is_selected card.state ≡ true → setting_of card ≡ setting
  pub sends : is_in card.state Data ≡ true → timing_once_sent card.source card.timing ≡ setting.timing
  pub reset : is_selected card.state ≡ false → IsAfterReset card

-- the commands of a run: reads, writes and erases, what they preset, and what ends them;
-- an unknown command does nothing
abbrev pub is_of_run : Command → Bool
is_of_run StopTransmission = true
is_of_run SendStatus = true
is_of_run SetBlockCount = true
is_of_run ReadSingleBlock = true
is_of_run ReadMultipleBlock = true
is_of_run WriteBlock = true
is_of_run WriteMultipleBlock = true
is_of_run EraseStart = true
is_of_run EraseEnd = true
is_of_run Erase = true
is_of_run Unknown = true
is_of_run _ = false

-- a frame with such a command, or with none
abbrev pub is_frame_of_run : Card → Option (ℕ × ℕ) → Bool
is_frame_of_run card (Some command) = is_of_run (command_of card.made.kind card.app command.0)
is_frame_of_run card None = true

-- a step leaves a card as standing as it was
abbrev pub StillStands : Card → Card → Type 0
StillStands old new = (setting : Setting) → Stands setting old → Stands setting new

-- it stands as before, in its partition or in this one
abbrev pub StandsIn : Part → Card → Card → Type 0
StandsIn part old new =
    (setting : Setting) → Stands setting old → Stands setting new ⊎ Stands (record setting { part = part }) new

-- CMD6 of eMMC that writes byte 179 with the access number of this partition
pub record SwitchesTo (part : Part) (card : Card) (index argument : ℕ) : Type 0 where
  pub mmc : card.made.kind ≡ Mmc
  pub switch : index ≡ Index.SWITCH_FUNC
  pub access : argument ≡ write_byte 179 (partition_config_for card.made part)

-- no fault is taken back, and at most so many fall
abbrev pub CountsAtMost : ℕ → BusView → BusView → Type 0
CountsAtMost most old new = (old.faults ≤ new.faults) × (new.faults ≤ old.faults + most)

-- time has passed, and this holds of the card by now
abbrev pub AfterSomeTime : BusView → (Card → Type 0) → Type 0
AfterSomeTime old Holds = (met : BusView) × Passes old met × Holds met.card

-- this holds of the card however much time passes
abbrev pub AfterAnyTime : BusView → (Card → Type 0) → Type 0
AfterAnyTime old Holds = (met : BusView) → Passes old met → Holds met.card

-- nothing goes on in it by itself: it isn't busy, and neither programs nor sends
pub record IsStill (card : Card) : Type 0 where
  pub rests : card.is_busy ≡ false
  pub programs_nothing : is_in card.state Prg ≡ false
  pub sends_nothing : is_in card.state Data ≡ false
