-- What an SD host controller does with the registers that the driver uses, over a card of the card relation
-- (SD Host Controller Simplified Specification 3.00, section 2.2). Offsets and bits are those of that section.
--
-- The card's step falls where the driver learns of it: at the look that finds a command or a block over, or at the reset that
-- drops it. So how many looks it takes is open, and a write is a function of what the registers hold. A block is over where nothing
-- can be wrong with it any more: the last one with Transfer Complete, any other once the next one is there, or room for it.
use Rattle.std.specs.Prelude.{Bool, List, None, Option, bit_and, false, if◌then◌else◌, is_none, nat_le, nat_lt, true, ℕ, ◌&&◌, ◌*◌, ◌+◌, ◌==◌, ◌≡◌, ◌≤◌}
use Rattle.mmc_frame.specs.Field.{field}
use Rattle.mmc_card.specs.BusView.{BusView}
use Rattle.mmc_card.specs.Card.{Card}
use Rattle.mmc_card.specs.Limits.{fewer}
use Rattle.mmc_card.specs.declared.exchange.Lines.{Lines}
use Rattle.mmc_card.specs.declared.exchange.Timing.TheVariants.{Default, High}
use Rattle.mmc_card.specs.declared.exchange.Width.{Width}
use Rattle.mmc_card.specs.declared.exchange.Width.TheVariants.{Eight, Four, One}
use Rattle.mmc_bus.specs.Exchanges.{Kept}
use Rattle.mmc_host.specs.declared.data.Data.{Data}
use Rattle.mmc_sdhci.specs.Lent.{Dma}

-- A command that runs: what its registers held when Command was written.
pub record Running : Type 0 where
  pub index : ℕ
  pub argument : ℕ
  -- the lower byte of Command: the type of response, and its checks
  pub flags : ℕ
  pub transfer : Data

-- What is built in: Capabilities (40h), the version of the specification (FEh: 0 is 1.00, 1 is 2.00, 2 is 3.00), and the most data
-- lines that are wired to the slot, of which no register tells.
pub record Built : Type 0 where
  pub capabilities : ℕ
  pub version : ℕ
  pub wired : Width

-- What is set: Host Control 1 (28h), Power Control (29h), Clock Control (2Ch), Timeout Control (2Eh), and which interrupts are shown
-- (34h, 36h).
pub record Settings : Type 0 where
  pub control : ℕ
  pub power : ℕ
  pub clock : ℕ
  pub timeout : ℕ
  pub shown : ℕ
  -- the internal clock was set, so many microseconds ago, and hasn't been seen to be stable since
  pub stabilizing : Option ℕ
  -- the card starts: it was given power, and since its clock was set it has run for so many microseconds, which isn't enough yet
  pub starting : Option ℕ

pub record ControllerView : Type 0 where
  pub card : Card
  pub faults : ℕ
  pub may_fall : Option ℕ
  pub is_kept : Bool
  pub built : Built
  pub settings : Settings
  -- Block Size and Block Count (04h), Argument (08h)
  pub sizes : ℕ
  pub argument : ℕ
  -- a reset was begun, so many microseconds ago, and hasn't been seen to be over since
  pub resetting : Option ℕ
  -- the command that runs, if one does
  pub running : Option Running
  -- Response (10h), four words, the lowest first
  pub response : List ℕ
  -- Normal Interrupt Status (30h, bits 15 to 0) and Error Interrupt Status (bits 31 to 16), as last looked at; after a reset
  -- that dropped something any bit may be left
  pub status : ℕ
  -- a command has failed, and the command line hasn't been reset since
  pub is_stuck : Bool
  -- the data that is still to come or to go
  pub transfer : Data
  -- data was broken off, by a command or a failure, and the data line hasn't been reset since
  pub is_stale : Bool
  -- a block that has come into the buffer, while something can still be wrong with it
  pub unjudged : Option (List ℕ)
  -- the last look at Present State found a block in the buffer, or room for one
  pub is_ready : Bool
  -- what is left in the buffer (20h) of a block that came, and what is in it of one that is to go
  pub incoming : List ℕ
  pub outgoing : List ℕ
  -- memory that is lent, and whether the controller moves the data by itself
  pub dma : Dma

-- Lines and clock.

-- Host Control 1: bit 5 eight lines, bit 1 four, bit 2 high speed
abbrev pub lines_in : ℕ → Lines
lines_in control =
    record {
      width = if field 5 5 control == 1 then Eight else (if field 1 1 control == 1 then Four else One);
      timing = if field 2 2 control == 1 then High else Default;
    }

-- Capabilities: bit 18 eight lines, bit 21 high speed
abbrev pub limits_in : ℕ → Lines
limits_in capabilities =
    record {
      width = if field 18 18 capabilities == 1 then Eight else Four;
      timing = if field 21 21 capabilities == 1 then High else Default;
    }

-- no more lines than these
abbrev pub limits_within : Width → Lines → Lines
limits_within wired limits = record limits { width = fewer wired limits.width }

-- as many lines as the controller has and the slot
abbrev pub limits_of : Built → Lines
limits_of built = limits_within built.wired (limits_in built.capabilities)

-- the base clock in MHz: bits 15 to 8 of Capabilities. Before version 3.00 bits 15 and 14 are reserved: where one is set it isn't told.
abbrev pub base_clock : ℕ → ℕ → ℕ
base_clock capabilities version =
    if nat_lt version 2 && nat_lt 63 (field 15 8 capabilities) then 0 else field 15 8 capabilities

-- Clock Control: the base clock is divided by twice the divider, whose ten bits are bits 7 and 6 and then 15 to 8; 0 divides by 1
abbrev pub divisor : ℕ → ℕ
divisor divider = if divider == 0 then 1 else 2 * divider

abbrev pub divider_in : ℕ → ℕ
divider_in clock = 256 * field 7 6 clock + field 15 8 clock

-- the clock has at most so many hertz
abbrev pub IsAtMost : ℕ → ControllerView → Type 0
IsAtMost most view =
    1000000 * base_clock view.built.capabilities view.built.version ≤ most * divisor (divider_in view.settings.clock)

-- the bus that it drives
abbrev pub seen : ControllerView → BusView
seen view =
    record {
      card = view.card;
      lines = lines_in view.settings.control;
      limits = limits_of view.built;
      last = None;
      exchanges = 0;
      faults = view.faults;
      may_fall = view.may_fall;
      is_kept = view.is_kept;
    }

-- Only a kept controller tells of its registers.
abbrev pub Settled : ControllerView → Type 0 → ControllerView → Type 0
Settled old Does new = new.is_kept ≡ true → (old.is_kept ≡ true) × Does

-- one step of the card
abbrev pub Steps : ControllerView → Type 0 → ControllerView → Type 0
Steps old Step new = Kept (seen old) Step (seen new)

-- what a step changes beside registers
abbrev pub moved : ControllerView → ControllerView → ControllerView
moved old new = record old { card = new.card; faults = new.faults; may_fall = new.may_fall }

-- What a card needs for a command and its data: 3.3 V (29h: bit 0 on, bits 3 to 1 are 111b), a clock that runs (bit 0 the internal
-- one, bit 2 the card's), Command Complete, Transfer Complete and all errors of command and data shown, and the longest timeout of
-- data, 2^27 clocks.
abbrev pub clock_runs : ℕ → Bool
clock_runs clock = (field 0 0 clock == 1) && (field 2 2 clock == 1)

abbrev pub judged_interrupts : ℕ
judged_interrupts = 0x007f0003

abbrev pub are_shown : ℕ → Bool
are_shown shown = bit_and shown judged_interrupts == judged_interrupts

abbrev pub is_set : Settings → Bool
is_set settings =
    ((settings.power == 0x0f) && (are_shown settings.shown && is_none settings.stabilizing))
    && (clock_runs settings.clock && (settings.timeout == 0x0e))

-- Power-up: a card that is given power starts, and has started after 1 ms and then 74 clocks (SD Physical Layer Simplified
-- Specification 6.00, section 6.4.1). Here its clock runs all that time; 74 clocks of base / divisor MHz take 74 * divisor / base
-- microseconds.
abbrev pub is_enough : ℕ → ℕ → ℕ → Bool
is_enough base divisor waited = nat_le (1000 * base + 74 * divisor) (waited * base)

-- nothing settles: neither a reset nor the internal clock
abbrev pub is_settled : ControllerView → Bool
is_settled view = is_none view.resetting && is_none view.settings.stabilizing

-- and the card has started
abbrev pub is_still : ControllerView → Bool
is_still view = is_settled view && is_none view.settings.starting

abbrev pub has_data : Data → Bool
has_data Data.Nothing = false
has_data _ = true
