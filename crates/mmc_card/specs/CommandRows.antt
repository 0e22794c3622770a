-- One row a command: its index and its name, who has it, its response and the data after it (SD Physical Layer 6.00,
-- sections 4.7.4 and 4.9; JESD84-B51, sections 6.10.4 and 6.12).
use Rattle.std.specs.Prelude.{◌≡◌, ℕ, Bool, true, false, List, [], codes}
use Rattle.mmc_frame.specs.declared.commands.TheConstants as Index
use Rattle.mmc_frame.specs.StatusBits.{defines}
use Rattle.mmc_frame.specs.declared.status_bits.Standard.{Standard}
use Rattle.mmc_frame.specs.declared.status_bits.Standard.TheVariants.{Both, Sd, Mmc}
use Rattle.mmc_frame.specs.declared.kind.Kind.{Kind}
use Rattle.mmc_frame.specs.declared.kind.Kind.TheVariants.{Sd as SdCard, Mmc as MmcDevice}
use Rattle.mmc_card.specs.declared.command.Command.{Command}
use Rattle.mmc_card.specs.declared.command.Command.TheVariants.{GoIdleState, SendOpCond, SdSendOpCond, AllSendCid, SendRelativeAddr, SetRelativeAddr}
use Rattle.mmc_card.specs.declared.command.Command.TheVariants.{SelectCard, SendIfCond, SendExtCsd, SendCsd, StopTransmission, SendStatus}
use Rattle.mmc_card.specs.declared.command.Command.TheVariants.{SetBlocklen, ReadSingleBlock, ReadMultipleBlock, SetBlockCount, WriteBlock, WriteMultipleBlock}
use Rattle.mmc_card.specs.declared.command.Command.TheVariants.{EraseStart, EraseEnd, Erase, Switch, SwitchFunc, SetBusWidth}
use Rattle.mmc_card.specs.declared.command.Command.TheVariants.{SendScr, AppCmd, Unknown}
use Rattle.mmc_card.specs.declared.command_row.Carried.{Carried}
use Rattle.mmc_card.specs.declared.command_row.Carried.TheVariants as Data
use Rattle.mmc_card.specs.declared.command_row.CommandRow.{CommandRow}
use Rattle.mmc_card.specs.declared.response.Response.{Response}
use Rattle.mmc_card.specs.declared.response.Response.TheVariants as To
use Rattle.mmc_card.specs.Rows.{command_of}

pub record Row : Type 0 where
  -- in SD's standard, or in eMMC's where that alone defines it
  pub index : ℕ
  pub name : List ℕ
  -- in eMMC's standard, or in SD's where that alone defines it
  pub mmc_index : ℕ
  pub mmc_name : List ℕ
  pub standard : Standard
  -- it goes after CMD55
  pub is_app : Bool
  pub response : Response
  pub carries : Carried

-- what a row of the program says
abbrev pub told : CommandRow → Row
told row = record {
  index = row.index;
  name = row.name.now;
  mmc_index = row.mmc_index;
  mmc_name = row.mmc_name.now;
  standard = row.standard;
  is_app = row.is_app;
  response = row.response;
  carries = row.carries;
}

-- a command that has one index and one name
abbrev pub one : Standard → Bool → ℕ → List ℕ → Response → Carried → Row
one standard is_app index name response carries = record {
  index = index;
  name = name;
  mmc_index = index;
  mmc_name = name;
  standard = standard;
  is_app = is_app;
  response = response;
  carries = carries;
}

-- a command that the two kinds have by different indexes
abbrev pub apart : ℕ → List ℕ → ℕ → List ℕ → Row
apart index name mmc_index mmc_name = record {
  index = index;
  name = name;
  mmc_index = mmc_index;
  mmc_name = mmc_name;
  standard = Both;
  is_app = false;
  response = To.R1;
  carries = Data.Nothing;
}

abbrev pub row_of : Command → Row
row_of GoIdleState = one Both false Index.GO_IDLE_STATE (codes "GO_IDLE_STATE") To.Nothing Data.Nothing
row_of SendOpCond = one Mmc false Index.SEND_OP_COND (codes "SEND_OP_COND") To.R3 Data.Nothing
row_of SdSendOpCond = one Sd true Index.SD_SEND_OP_COND (codes "SD_SEND_OP_COND") To.R3 Data.Nothing
row_of AllSendCid = one Both false Index.ALL_SEND_CID (codes "ALL_SEND_CID") To.R2 Data.Nothing
row_of SendRelativeAddr = one Sd false Index.SEND_RELATIVE_ADDR (codes "SEND_RELATIVE_ADDR") To.R6 Data.Nothing
row_of SetRelativeAddr = one Mmc false Index.SEND_RELATIVE_ADDR (codes "SET_RELATIVE_ADDR") To.R1 Data.Nothing
row_of SelectCard = one Both false Index.SELECT_CARD (codes "SELECT_CARD") To.R1b Data.Nothing
row_of SendIfCond = one Sd false Index.SEND_IF_COND (codes "SEND_IF_COND") To.R7 Data.Nothing
row_of SendExtCsd = one Mmc false Index.SEND_IF_COND (codes "SEND_EXT_CSD") To.R1 (Data.ReadOne 512)
row_of SendCsd = one Both false Index.SEND_CSD (codes "SEND_CSD") To.R2 Data.Nothing
row_of StopTransmission = one Both false Index.STOP_TRANSMISSION (codes "STOP_TRANSMISSION") To.R1b Data.Nothing
row_of SendStatus = one Both false Index.SEND_STATUS (codes "SEND_STATUS") To.R1 Data.Nothing
row_of SetBlocklen = one Both false Index.SET_BLOCKLEN (codes "SET_BLOCKLEN") To.R1 Data.Nothing
row_of ReadSingleBlock = one Both false Index.READ_SINGLE_BLOCK (codes "READ_SINGLE_BLOCK") To.R1 (Data.ReadOne 512)
row_of ReadMultipleBlock = one Both false Index.READ_MULTIPLE_BLOCK (codes "READ_MULTIPLE_BLOCK") To.R1 Data.ReadSeveral
row_of SetBlockCount = one Both false Index.SET_BLOCK_COUNT (codes "SET_BLOCK_COUNT") To.R1 Data.Nothing
row_of WriteBlock = one Both false Index.WRITE_BLOCK (codes "WRITE_BLOCK") To.R1 Data.WriteOne
row_of WriteMultipleBlock = one Both false Index.WRITE_MULTIPLE_BLOCK (codes "WRITE_MULTIPLE_BLOCK") To.R1 Data.WriteSeveral
row_of EraseStart = apart Index.ERASE_WR_BLK_START (codes "ERASE_WR_BLK_START") Index.ERASE_GROUP_START (codes "ERASE_GROUP_START")
row_of EraseEnd = apart Index.ERASE_WR_BLK_END (codes "ERASE_WR_BLK_END") Index.ERASE_GROUP_END (codes "ERASE_GROUP_END")
row_of Erase = one Both false Index.ERASE (codes "ERASE") To.R1b Data.Nothing
row_of Switch = one Mmc false Index.SWITCH_FUNC (codes "SWITCH") To.R1b Data.Nothing
row_of SwitchFunc = one Sd false Index.SWITCH_FUNC (codes "SWITCH_FUNC") To.R1 (Data.ReadOne 64)
row_of SetBusWidth = one Sd true Index.SET_BUS_WIDTH (codes "SET_BUS_WIDTH") To.R1 Data.Nothing
row_of SendScr = one Sd true Index.SEND_SCR (codes "SEND_SCR") To.R1 (Data.ReadOne 8)
row_of AppCmd = one Both false Index.APP_CMD (codes "APP_CMD") To.R1 Data.Nothing
row_of Unknown = one Both false 63 [] To.R1 Data.Nothing

-- its index for this kind of card
abbrev pub index_for : Kind → Row → ℕ
index_for SdCard row = row.index
index_for MmcDevice row = row.mmc_index

-- Each kind of card that has the command knows it by its row's index, after CMD55 or not as the row says.
abbrev pub IsKnownByItsRow : Command → Type 0
IsKnownByItsRow command =
    (kind : Kind) → defines kind (row_of command).standard ≡ true
    → command_of kind (row_of command).is_app (index_for kind (row_of command)) ≡ command
