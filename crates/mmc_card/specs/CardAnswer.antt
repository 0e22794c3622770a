-- Relation (docs/AUDIT.md, "What to read").
-- What a card shows of itself in a response, and what it does with the error bits that it has shown.
-- When error bits are raised, shown and cleared is the project's own choice, made here once.
use Rattle.std.specs.Prelude.{◌%◌, ◌*◌, ◌+◌, ◌-◌, ◌^◌, Bool, List, Option, bit_or, false, if◌then◌else◌, min, not, true, ℕ}
use Rattle.mmc_frame.specs.Field.{field}
use Rattle.mmc_frame.specs.Status.{state_number}
use Rattle.mmc_frame.specs.declared.card_state.State.{State}
use Rattle.mmc_card.specs.Card.{Card, landed, patience, powered_on}
use Rattle.mmc_card.specs.ErrorBits.{card_is_locked, com_crc_error, illegal_command}
use Rattle.mmc_card.specs.Made.{Made, named_block_length}

-- What a card answers: nothing; a response with a check, to the command with this index, with this argument (R1, R6,
-- R7); an OCR (R3); a register of sixteen bytes (R2).
pub data CardAnswer : Type 0 where
  Silent : CardAnswer
  Checked : ℕ → ℕ → CardAnswer
  R3 : ℕ → CardAnswer
  R2 : List ℕ → CardAnswer

-- Where a card is free to choose.
pub record Choice : Type 0 where
  -- not ready yet, or busy still
  pub is_slow : Bool
  -- which values of an unfinished transfer have landed, each by how many stand after it
  pub lands : ℕ → Bool
  -- OUT_OF_RANGE after the last sector of a partition
  pub says_end : Bool
  -- the preset count outlives a command with a bad check
  pub keeps_count : Bool
  -- which of the RCAs from 1 on an SD card publishes
  pub rca : ℕ
  -- the block length outlives CMD0
  pub keeps_length : Bool
  -- an SD card leaves high speed unselected when it is to switch to it, and its status names function 15 then, none, or 0
  pub refuses_speed : Bool
  pub selects_none : Bool
  -- a switch of an eMMC device fails; where none is carried out, the status after it alone says so
  pub fails_switch : Bool
  pub says_late : Bool
  -- which error bits a command finds, so that it isn't carried out
  pub finds : ℕ
  -- the CSD that it tells says TMP_WRITE_PROTECT
  pub is_protected : Bool
  -- CMD12 that ends a read leaves the card busy
  pub stays_busy : Bool
  -- CMD12 is answered in tran too
  pub answers_stop : Bool
  -- erase addresses are dropped without ERASE_RESET
  pub drops_quietly : Bool
  -- A status lags behind the card: it shows this state where that leads to tran, ready for data or not, and otherwise tran and
  -- not ready. Errors of the programming, or that a switch failed, may show later still.
  pub is_behind : Bool
  pub shows : State
  pub shows_ready : Bool
  pub tells_late : Bool
  -- places in the EXT_CSD or in a switch status, and the bytes that stand there, where nobody reads them
  pub unread : List (ℕ × ℕ)
  -- another function of group 2 in a switch status
  pub second_group : Option ℕ

abbrev pub bit : Bool → ℕ
bit b = if b then 1 else 0

-- The status with APP_CMD or not. CURRENT_STATE is the state in which the command came; READY_FOR_DATA is 0 only while
-- busy; CARD_IS_LOCKED is in each status of a locked card.
abbrev pub status : Bool → Card → ℕ
status app card =
    2 ^ 13 * (card.command_errors + card.errors + card_is_locked * bit card.made.is_locked)
    + 2 ^ 9 * state_number card.state + 2 ^ 8 * bit (not card.is_busy) + 2 ^ 7 * bit card.switch_error + 2 ^ 5 * bit app

-- The RCA that an SD card publishes: at each CMD3 any of 1 to FFFFh, since 0 names no card (SD Physical Layer 6.00,
-- sections 4.2.2 and 5.4).
abbrev pub published : Choice → Made → ℕ
published choice made = if made.is_nameless then 0 else 1 + choice.rca % (2 ^ 16 - 1)

-- The argument of an R6: the RCA, and status bits 23, 22, 19 and 12 to 0 (SD Physical Layer 6.00, section 4.9.5).
abbrev pub r6_argument : ℕ → Card → ℕ
r6_argument rca card =
    2 ^ 16 * rca + 2 ^ 14 * field 23 22 (status false card) + 2 ^ 13 * field 19 19 (status false card)
    + field 12 0 (status false card)

-- error bits are raised, and stay until they are shown
abbrev pub raised : ℕ → Card → Card
raised bits card = record card { errors = bit_or card.errors bits }

-- A command is carried out: it is no longer an application command, a preset count was for it alone, bits 23 and 22
-- are cleared, whatever its response, and no status lags behind it.
abbrev pub done : Card → Card
done card = record card { app = false; count = 0; command_errors = 0; lags = false }

-- it has a response with a status: all error bits are shown, and cleared, whether the host receives them or not
abbrev pub shown : Card → Card
shown card =
    record card { app = false; count = 0; command_errors = 0; errors = 0; switch_error = false; lags = false }

-- some of bits 23 and 22 are left to be shown, besides those that are
abbrev pub left_with : ℕ → Card → Card
left_with bits card = record card { command_errors = bit_or card.command_errors bits }

-- and error bits of execution too
abbrev pub showing : ℕ → ℕ → Card → Card
showing left found card = raised found (left_with left card)

-- A command that isn't carried out: no response, and ILLEGAL_COMMAND.
abbrev pub refused : Card → Card
refused card = record (left_with illegal_command card) { app = false; count = 0 }

-- A command with a bad check: no response, and COM_CRC_ERROR; the preset count stays or goes, and nothing else changes.
abbrev pub garbled : Bool → Card → Card
garbled keeps_count card = record (left_with com_crc_error card) { count = if keeps_count then card.count else 0 }

-- As after CMD0 (SD Physical Layer 6.00, section 4.3; JESD84-B51, section 6.4.1): each block or sector of an unfinished
-- write, erase or trim is old or new. The block length stays, or is the one that the registers name.
abbrev pub reset : (ℕ → Bool) → Bool → Card → Card
reset lands keeps_length card =
    record (powered_on card.made (landed lands card)) {
      block_length = if keeps_length then card.block_length else named_block_length card.made;
    }

-- one time more, counted up to `patience`
abbrev pub counted : ℕ → ℕ
counted times = min (times + 1) patience

-- the card is made busy, until the poll that it answers no
abbrev pub busied : Card → Card
busied card = record card { is_busy = true; polled = 0 }
