-- Headline (docs/AUDIT.md, "What to read").
-- A card: what it is made with, where it is, what it remembers, and its sectors.
use Rattle.std.specs.Prelude.{◌+◌, ◌<◌, ◌==◌, ◌||◌, ◌∷◌, ◌≡◌, ◌≤◌, ◌⊎◌, Bool, List, None, Option, [], bit_or, false}
use Rattle.std.specs.Prelude.{if◌then◌else◌, length, nat_lt, slice_index_or, slice_set, suc, true, zero, ℕ}
use Rattle.mmc_frame.specs.Flips.{AreBytes}
use Rattle.mmc_frame.specs.Status.{state_number}
use Rattle.mmc_frame.specs.declared.card_state.State.{State}
use Rattle.mmc_frame.specs.declared.card_state.State.TheVariants.{Data, Idle, Prg, Rcv, Stby, Tran}
use Rattle.mmc_frame.specs.declared.kind.Kind.TheVariants.{Mmc}
use Rattle.mmc_card.specs.declared.exchange.Timing.{Timing}
use Rattle.mmc_card.specs.declared.exchange.Timing.TheVariants.{Default}
use Rattle.mmc_card.specs.declared.exchange.Width.{Width}
use Rattle.mmc_card.specs.declared.exchange.Width.TheVariants.{One}
use Rattle.mmc_card.specs.declared.part.Part.{Part}
use Rattle.mmc_card.specs.declared.part.Part.TheVariants.{User}
use Rattle.mmc_card.specs.ErrorBits.{command_error_bits, error_bits}
use Rattle.mmc_card.specs.Made.{HasRegisters, Made, first_block_length, first_rca, named_block_length, sectors_in}
use Rattle.mmc_card.specs.Sectors.{Change, Sector, Sets, maybe_changed, part_number}

-- The addresses that an erase is to go by: none, that of CMD32 or CMD35, and that of CMD33 or CMD36 too.
pub data Held : Type 0 where
  NoAddress : Held
  First : ℕ → Held
  Both : ℕ → ℕ → Held

-- What a card in data sends: sectors, or one block of other bytes, after which the timing is this one.
pub data Source : Type 0 where
  FromSectors : Source
  FromBytes : List ℕ → Timing → Source

pub record Card : Type 0 where
  pub made : Made
  pub state : State
  pub rca : ℕ
  -- the partition that is accessed (eMMC), the lines and the timing
  pub part : Part
  pub width : Width
  pub timing : Timing
  -- byte 175 of the EXT_CSD
  pub erase_group_def : ℕ
  pub block_length : ℕ
  -- the count that CMD23 has preset for the next command; 0 is none
  pub count : ℕ
  -- the next command is an application command
  pub app : Bool
  pub erase : Held
  -- Error bits to be shown, in units of bit 13: bits 23 and 22, and bits 31 to 13 but for these two.
  -- SWITCH_ERROR is bit 7.
  pub command_errors : ℕ
  pub errors : ℕ
  pub switch_error : Bool
  -- SD: it has accepted a CMD8 since CMD0 or power on
  pub accepted_cmd8 : Bool
  -- readiness inquiries since CMD0 or power on, and polls that were answered yes in this busy time
  pub inquiries : ℕ
  pub is_busy : Bool
  pub polled : ℕ
  -- its programming has ended, and its statuses may lag behind
  pub lags : Bool
  -- a list of sectors for each partition, as they were before the write or erase that is unfinished
  pub sectors : List (List Sector)
  -- What a transfer sends; its next sector; the blocks to come, of an uncounted transfer none; a write of CMD24.
  pub source : Source
  pub next : ℕ
  pub left : Option ℕ
  pub is_single : Bool
  -- the unfinished write, erase or trim: its first sector, and its new values so far
  pub start : ℕ
  pub values : List Sector
  -- the programming is that of CMD6 (eMMC)
  pub is_switching : Bool

-- How often at most a faithful card says that it isn't ready, and in one busy time that it is busy or at work. The number is
-- the project's own: slowness within what the standards allow is no fault (SD Physical Layer 6.00, sections 4.2.3 and 4.6.2).
abbrev pub patience : ℕ
patience = 15

abbrev pub is_in : State → State → Bool
is_in state other = state_number state == state_number other

-- The states with the card selected (SD Physical Layer 6.00, section 4.3; JESD84-B51, section 6.6); dis is left out.
abbrev pub is_selected : State → Bool
is_selected Tran = true
is_selected Data = true
is_selected Rcv = true
is_selected Prg = true
is_selected _ = false

-- stby, tran, data, rcv and prg: the card goes by an RCA that it published or that the host assigned
abbrev pub is_identified : State → Bool
is_identified state = is_in state Stby || is_selected state

-- a write or an erase may run
abbrev pub is_writing : State → Bool
is_writing Rcv = true
is_writing Prg = true
is_writing _ = false

-- a partition's sectors, as they were before what is unfinished
abbrev pub stored : Card → Part → List Sector
stored card part = slice_index_or card.sectors (part_number part) []

-- the value of a sector that exists, as a list of one
abbrev pub at_sector : List Sector → ℕ → List Sector
at_sector sectors sector = if nat_lt sector (length sectors) then (slice_index_or sectors sector [] ∷ []) else []

abbrev pub known : Card → Sets
known card part sector = at_sector (stored card part) sector

abbrev pub unfinished : Card → Change
unfinished card = record { part = card.part; start = card.start; values = card.values }

-- The values that each sector may still turn out to have:
-- one, or old and new while a write, erase or trim is unfinished.
abbrev pub holds : Card → Sets
holds card = maybe_changed (unfinished card) (known card)

-- these sectors, from `start` on the values of which some have landed
abbrev pub landed_in : (ℕ → Bool) → ℕ → List Sector → List Sector → List Sector
landed_in lands start values [] = []
landed_in lands zero [] (x ∷ xs) = x ∷ xs
landed_in lands zero (v ∷ values) (x ∷ xs) = (if lands (length values) then v else x) ∷ landed_in lands zero values xs
landed_in lands (suc start) values (x ∷ xs) = x ∷ landed_in lands start values xs

-- the partitions once the unfinished transfer is over and some of it has landed
abbrev pub landed : (ℕ → Bool) → Card → List (List Sector)
landed lands card =
    slice_set card.sectors (part_number card.part) (landed_in lands card.start card.values (stored card card.part))

-- A card after power on, with these sectors in its partitions.
abbrev pub powered_on : Made → List (List Sector) → Card
powered_on made sectors =
    record {
      made = made;
      state = Idle;
      rca = first_rca made.kind;
      part = User;
      width = One;
      timing = Default;
      erase_group_def = 0;
      block_length = first_block_length made;
      count = 0;
      app = false;
      erase = NoAddress;
      command_errors = 0;
      errors = 0;
      switch_error = false;
      accepted_cmd8 = false;
      inquiries = 0;
      is_busy = false;
      polled = 0;
      lags = false;
      sectors = sectors;
      source = FromSectors;
      next = 0;
      left = None;
      is_single = false;
      start = 0;
      values = [];
      is_switching = false;
    }

-- the first error bits, all of which are among the second ones
abbrev pub AreAmong : ℕ → ℕ → Type 0
AreAmong bits all = bit_or bits all ≡ all

-- 512 bytes
pub record IsBlock (block : Sector) : Type 0 where
  pub len : length block ≡ 512
  pub bytes : AreBytes block

abbrev pub AreBlocks : List Sector → Type 0
AreBlocks [] = Unit {0}
AreBlocks (x ∷ xs) = IsBlock x × AreBlocks xs

-- not selected: one line, default speed, ERASE_GROUP_DEF 0, the user partition;
-- not busy, nothing preset, no erase address
pub record IsApart (card : Card) : Type 0 where
  pub width : card.width ≡ One
  pub timing : card.timing ≡ Default
  pub erase_group_def : card.erase_group_def ≡ 0
  pub part : card.part ≡ User
  pub is_busy : card.is_busy ≡ false
  pub count : card.count ≡ 0
  pub erase : card.erase ≡ NoAddress

-- the RCA is the first one until one is published or assigned
abbrev pub HasItsRca : Card → Type 0
HasItsRca card = is_identified card.state ≡ false → card.rca ≡ first_rca card.made.kind

-- what is unfinished, if anything is, lies inside its partition
abbrev pub FitsPart : Card → Type 0
FitsPart card = 0 < length card.values → card.start + length card.values ≤ length (stored card card.part)

-- what it is to send besides sectors is bytes
abbrev pub SendsBytes : Source → Type 0
SendsBytes FromSectors = Unit {0}
SendsBytes (FromBytes bytes timing) = AreBytes bytes

-- Each partition has the size that the registers tell.
abbrev pub HasItsSizes : Card → Type 0
HasItsSizes card = (part : Part) → length (stored card part) ≡ sectors_in card.made part

-- What holds of each card, whatever has happened to it (the project's own).
pub record IsCard (card : Card) : Type 0 where
  pub registers : HasRegisters card.made
  pub sizes : HasItsSizes card
  pub apart : is_selected card.state ≡ false → IsApart card
  -- erase addresses are held only in tran
  pub held : is_in card.state Tran ≡ false → card.erase ≡ NoAddress
  -- while it programs it is busy
  pub busy : is_in card.state Prg ≡ true → card.is_busy ≡ true
  pub rca : HasItsRca card
  -- an eMMC device has no application commands
  pub app : card.made.kind ≡ Mmc → card.app ≡ false
  pub inquiries : card.inquiries ≤ patience
  pub polled : card.polled ≤ patience
  -- a write, erase or trim is unfinished only in rcv and prg
  pub finished : is_writing card.state ≡ false → card.values ≡ []
  pub fits : FitsPart card
  -- the card accepts blocks while nothing switches, and a switch programs nothing
  pub receives : is_in card.state Rcv ≡ true → card.is_switching ≡ false
  pub switches : is_in card.state Prg ≡ true → card.is_switching ≡ true → card.values ≡ []
  -- what is to be sent is forgotten outside data
  pub source : is_in card.state Data ≡ false → card.source ≡ FromSectors
  pub sends : SendsBytes card.source
  -- byte 175 of the EXT_CSD is 0, or 1 by a switch
  pub erase_group_def : card.erase_group_def ≤ 1
  pub block_length : (card.block_length ≡ 512) ⊎ (card.block_length ≡ named_block_length card.made)
  pub command_errors : AreAmong card.command_errors command_error_bits
  pub errors : AreAmong card.errors error_bits
  -- sectors have 512 bytes, and so have the new values of an unfinished write, erase or trim
  pub blocks : (part : Part) → AreBlocks (stored card part)
  pub new_values : AreBlocks card.values
