-- Relation (docs/AUDIT.md, "What to read").
-- What a faithful card does with a command. Which states carry out a command is the project's own choice, made here
-- once after the standard's tables (SD Physical Layer 6.00, table 4-35; JESD84-B51, table 60).
use Rattle.std.specs.Prelude.{◌&&◌, ◌==◌, ◌||◌, Bool, None, Option, Some, bit_or, false, if◌then◌else◌, not, true, ℕ}
use Rattle.mmc_frame.specs.Field.{field}
use Rattle.mmc_frame.specs.declared.card_state.State.TheVariants.{Data, Ident, Idle, Rcv, Ready, Stby, Tran}
use Rattle.mmc_frame.specs.declared.kind.Kind.{Kind}
use Rattle.mmc_frame.specs.declared.kind.Kind.TheVariants.{Mmc, Sd}
use Rattle.mmc_frame.specs.declared.commands.TheConstants as Index
use Rattle.mmc_card.specs.declared.command.Command.{Command}
use Rattle.mmc_card.specs.declared.command.Command.TheVariants.{SdSendOpCond, SendScr, SetBusWidth, AllSendCid, AppCmd}
use Rattle.mmc_card.specs.declared.command.Command.TheVariants.{Erase, EraseEnd, EraseStart, GoIdleState}
use Rattle.mmc_card.specs.declared.command.Command.TheVariants.{ReadMultipleBlock, ReadSingleBlock, SelectCard, SendCsd}
use Rattle.mmc_card.specs.declared.command.Command.TheVariants.{SendExtCsd, SendIfCond, SendOpCond, SendRelativeAddr}
use Rattle.mmc_card.specs.declared.command.Command.TheVariants.{SendStatus, SetBlockCount, SetBlocklen, SetRelativeAddr}
use Rattle.mmc_card.specs.declared.command.Command.TheVariants.{StopTransmission, Switch, SwitchFunc, Unknown}
use Rattle.mmc_card.specs.declared.command.Command.TheVariants.{WriteBlock, WriteMultipleBlock}
use Rattle.mmc_card.specs.CardAnswer.{CardAnswer, Checked, Choice, Silent, garbled, raised, refused, shown, status}
use Rattle.mmc_card.specs.ErrorBits.{erase_reset, execution_error_bits}
use Rattle.mmc_card.specs.Card.{Card, is_identified, is_in}
use Rattle.mmc_card.specs.Made.{has_cmd23, has_switch_function, is_mmc, is_sd}
use Rattle.mmc_card.specs.RowsErase.{erase_held, forgotten, hold_first, hold_last, holds_address}
use Rattle.mmc_card.specs.RowsIdentify.{all_send_cid, app_cmd, go_idle_state, sd_send_op_cond, select_card, send_csd}
use Rattle.mmc_card.specs.RowsIdentify.{send_if_cond, send_op_cond, send_relative_addr, send_status, set_relative_addr}
use Rattle.mmc_card.specs.RowsSwitch.{send_ext_csd, set_bus_width, switch_byte, switch_func}
use Rattle.mmc_card.specs.RowsTransfer.{read_multiple_block, read_single_block, send_scr, set_block_count_to}
use Rattle.mmc_card.specs.RowsTransfer.{set_blocklen, stop_transmission, write_block, write_multiple_block}

abbrev pub by_kind : Kind → Command → Command → Command
by_kind Sd sd mmc = sd
by_kind Mmc sd mmc = mmc

-- what an index means to a card of this kind, after CMD55 or not; one with no application command is ordinary there
abbrev pub command_of : Kind → Bool → ℕ → Command
command_of kind app index =
    if index == Index.GO_IDLE_STATE then GoIdleState
    else if index == Index.SEND_OP_COND then by_kind kind Unknown SendOpCond
    else if index == Index.ALL_SEND_CID then AllSendCid
    else if index == Index.SEND_RELATIVE_ADDR then by_kind kind SendRelativeAddr SetRelativeAddr
    else if index == Index.SWITCH_FUNC then by_kind kind (if app then SetBusWidth else SwitchFunc) Switch
    else if index == Index.SELECT_CARD then SelectCard
    else if index == Index.SEND_IF_COND then by_kind kind SendIfCond SendExtCsd
    else if index == Index.SEND_CSD then SendCsd
    else if index == Index.STOP_TRANSMISSION then StopTransmission
    else if index == Index.SEND_STATUS then SendStatus
    else if index == Index.SET_BLOCKLEN then SetBlocklen
    else if index == Index.READ_SINGLE_BLOCK then ReadSingleBlock
    else if index == Index.READ_MULTIPLE_BLOCK then ReadMultipleBlock
    else if index == Index.SET_BLOCK_COUNT then SetBlockCount
    else if index == Index.WRITE_BLOCK then WriteBlock
    else if index == Index.WRITE_MULTIPLE_BLOCK then WriteMultipleBlock
    else if index == Index.ERASE_WR_BLK_START then by_kind kind EraseStart Unknown
    else if index == Index.ERASE_WR_BLK_END then by_kind kind EraseEnd Unknown
    else if index == Index.ERASE_GROUP_START then by_kind kind Unknown EraseStart
    else if index == Index.ERASE_GROUP_END then by_kind kind Unknown EraseEnd
    else if index == Index.ERASE then Erase
    else if index == Index.SD_SEND_OP_COND then by_kind kind (if app then SdSendOpCond else Unknown) Unknown
    else if index == Index.SEND_SCR then by_kind kind (if app then SendScr else Unknown) Unknown
    else if index == Index.APP_CMD then AppCmd
    else Unknown

-- The commands that name a card in argument bits 31 to 16. Deselecting by CMD7 is left out.
abbrev pub is_addressed : Command → Bool
is_addressed SelectCard = true
is_addressed SendCsd = true
is_addressed SendStatus = true
is_addressed AppCmd = true
is_addressed _ = false

-- it names another card
abbrev pub is_foreign : Command → Card → ℕ → Bool
is_foreign command card argument = is_addressed command && not (field 31 16 argument == card.rca)

-- where a command is carried out
abbrev pub is_legal : Command → Card → Bool
is_legal GoIdleState card = true
is_legal SendOpCond card = is_in card.state Idle
is_legal SdSendOpCond card = is_in card.state Idle
is_legal AllSendCid card = is_in card.state Ready
is_legal SendRelativeAddr card = is_in card.state Ident || is_in card.state Stby
is_legal SetRelativeAddr card = is_mmc card.made.kind && is_in card.state Ident
is_legal SelectCard card = is_in card.state Stby
is_legal SendIfCond card = is_in card.state Idle && card.made.answers_cmd8
is_legal SendExtCsd card = is_in card.state Tran
is_legal SendCsd card = is_in card.state Stby
is_legal StopTransmission card = is_in card.state Tran || (is_in card.state Data || is_in card.state Rcv)
-- ACMD13 is left out
is_legal SendStatus card = is_identified card.state && not card.app
is_legal SetBlocklen card = is_in card.state Tran
is_legal ReadSingleBlock card = is_in card.state Tran
is_legal ReadMultipleBlock card = is_in card.state Tran
is_legal SetBlockCount card = is_in card.state Tran && has_cmd23 card.made
is_legal WriteBlock card = is_in card.state Tran
is_legal WriteMultipleBlock card = is_in card.state Tran
is_legal EraseStart card = is_in card.state Tran
is_legal EraseEnd card = is_in card.state Tran
is_legal Erase card = is_in card.state Tran
is_legal Switch card = is_in card.state Tran
is_legal SwitchFunc card = is_in card.state Tran && has_switch_function card.made
is_legal SetBusWidth card = is_in card.state Tran
is_legal SendScr card = is_in card.state Tran
is_legal AppCmd card = is_sd card.made.kind && (is_in card.state Idle || is_identified card.state)
is_legal Unknown card = false

-- what it does there, and its answer
abbrev pub row : Choice → Command → Card → ℕ → ℕ → Card × CardAnswer
row choice GoIdleState card index argument = go_idle_state choice card
row choice SendOpCond card index argument = send_op_cond choice card
row choice SdSendOpCond card index argument = sd_send_op_cond choice card argument
row choice AllSendCid card index argument = all_send_cid card
row choice SendRelativeAddr card index argument = send_relative_addr choice card
row choice SetRelativeAddr card index argument = set_relative_addr card argument
row choice SelectCard card index argument = select_card card
row choice SendIfCond card index argument = send_if_cond card argument
row choice SendExtCsd card index argument = send_ext_csd choice card
row choice SendCsd card index argument = send_csd choice card
row choice StopTransmission card index argument = stop_transmission choice card
row choice SendStatus card index argument = send_status choice card
row choice SetBlocklen card index argument = set_blocklen card argument
row choice ReadSingleBlock card index argument = read_single_block card argument
row choice ReadMultipleBlock card index argument = read_multiple_block card argument
row choice SetBlockCount card index argument = set_block_count_to card argument
row choice WriteBlock card index argument = write_block card argument
row choice WriteMultipleBlock card index argument = write_multiple_block card argument
row choice EraseStart card index argument = hold_first index card argument card.erase
row choice EraseEnd card index argument = hold_last index card argument card.erase
row choice Erase card index argument = erase_held card argument card.erase
row choice Switch card index argument = switch_byte choice card argument
row choice SwitchFunc card index argument = switch_func choice card argument
row choice SetBusWidth card index argument = set_bus_width card argument
row choice SendScr card index argument = send_scr card
row choice AppCmd card index argument = app_cmd card
row choice Unknown card index argument = (refused card, Silent)

-- CMD13 leaves held erase addresses as they are, and the erase commands judge them.
abbrev pub leaves_erase : Command → Bool
leaves_erase SendStatus = true
leaves_erase EraseStart = true
leaves_erase EraseEnd = true
leaves_erase Erase = true
leaves_erase _ = false

-- Any other command drops them, with ERASE_RESET or without, also one that isn't carried out
-- (SD Physical Layer 6.00, section 4.3.5).
abbrev pub without_addresses : Bool → Card → Card
without_addresses quietly card =
    if holds_address card.erase
    then (if quietly then forgotten card else raised erase_reset (forgotten card)) else card

abbrev pub reached : Choice → Command → Card → Card
reached choice command card = if leaves_erase command then card else without_addresses choice.drops_quietly card

-- The commands that an error may keep from being carried out: all with an R1 but CMD7 and CMD12, which are carried out with any
-- error, and CMD13, which asks for it.
abbrev pub may_find : Command → Bool
may_find SetRelativeAddr = true
may_find SendExtCsd = true
may_find SetBlocklen = true
may_find ReadSingleBlock = true
may_find ReadMultipleBlock = true
may_find SetBlockCount = true
may_find WriteBlock = true
may_find WriteMultipleBlock = true
may_find EraseStart = true
may_find EraseEnd = true
may_find Erase = true
may_find Switch = true
may_find SwitchFunc = true
may_find SetBusWidth = true
may_find SendScr = true
may_find AppCmd = true
may_find _ = false

-- which error bits such a command finds: those of execution, if any
abbrev pub found : Choice → Command → ℕ
found choice command =
    if may_find command && (bit_or choice.finds execution_error_bits == execution_error_bits) then choice.finds else 0

-- It isn't carried out: its R1 shows these errors, and nothing else comes of it (SD Physical Layer 6.00, section 4.10.1, types r
-- and x; JESD84-B51, section 6.13).
abbrev pub hindered : ℕ → Card → ℕ → Card × CardAnswer
hindered bits card index = (shown card, Checked index (status false (raised bits card)))

-- A legal command of the card that it has reached.
abbrev pub obeyed : Choice → Command → Card → ℕ → ℕ → Card × CardAnswer
obeyed choice command card index argument =
    if found choice command == 0 then row choice command card index argument else hindered (found choice command) card index

-- A sound command: the card after it, and its answer. One that names another card changes nothing.
abbrev pub responded : Choice → Command → Card → ℕ → ℕ → Card × CardAnswer
responded choice command card index argument =
    if is_foreign command card argument then (card, Silent)
    else if is_legal command card then obeyed choice command (reached choice command card) index argument
    else (refused (reached choice command card), Silent)

abbrev pub respond : Choice → Card → ℕ → ℕ → Card × CardAnswer
respond choice card index argument =
    responded choice (command_of card.made.kind card.app index) card index argument

-- A frame: what a card does with the command in it, or with a frame that is none.
abbrev pub answered : Choice → Card → Option (ℕ × ℕ) → Card × CardAnswer
answered choice card (Some command) = respond choice card command.0 command.1
answered choice card None = (garbled choice.keeps_count card, Silent)
