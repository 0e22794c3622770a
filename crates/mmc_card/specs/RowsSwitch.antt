-- Relation (docs/AUDIT.md, "What to read").
-- Width, speed and partition (SD Physical Layer 6.00, sections 4.3.10 and 4.7.4; JESD84-B51, sections 6.6.1 and 7.4).
-- Each row is what a card does with a command in tran, and its answer.
use Rattle.std.specs.Prelude.{◌%◌, ◌&&◌, ◌*◌, ◌+◌, ◌==◌, ◌^◌, ◌||◌, ◌∷◌, ◌≡◌, Bool, List, None, Option, Some, [], false}
use Rattle.std.specs.Prelude.{if◌then◌else◌, length, nat_le, not, slice_index, slice_set, true, ℕ}
use Rattle.mmc_frame.specs.Field.{field}
use Rattle.mmc_frame.specs.declared.card_state.State.TheVariants.{Prg}
use Rattle.mmc_frame.specs.declared.commands.TheConstants as Index
use Rattle.mmc_ext_csd.specs.ExtCsd.{high_speed_at_52_mhz, partition_config}
use Rattle.mmc_card.specs.declared.exchange.Timing.{Timing}
use Rattle.mmc_card.specs.declared.exchange.Timing.TheVariants.{Default, High}
use Rattle.mmc_card.specs.declared.exchange.Width.{Width}
use Rattle.mmc_card.specs.declared.exchange.Width.TheVariants.{Eight, Four, One}
use Rattle.mmc_card.specs.declared.part.Part.{Part}
use Rattle.mmc_card.specs.declared.part.Part.TheVariants.{Boot1, Boot2, Gp1, Gp2, Gp3, Gp4, User}
use Rattle.mmc_card.specs.CardAnswer.{CardAnswer, Checked, Choice, busied, shown, status}
use Rattle.mmc_card.specs.Card.{Card, FromBytes, Source, stored}
use Rattle.mmc_card.specs.Made.{Made, has_high_speed}
use Rattle.mmc_card.specs.RowsTransfer.{sending, sending_from}

-- ACMD6, SET_BUS_WIDTH: bits 1..0 are 0 for one line and 2 for four; with others the lines stay (the project's own)
abbrev pub width_by : ℕ → Width → Width
width_by bits width = if bits == 0 then One else if bits == 2 then Four else width

abbrev pub set_bus_width : Card → ℕ → Card × CardAnswer
set_bus_width card argument = (
  record (shown card) { width = width_by (field 1 0 argument) card.width },
  Checked Index.SET_BUS_WIDTH
      (status true card),
)

-- With bit 31, CMD6 of SD is to switch to high speed, where the card has it.
abbrev pub is_to_speed_up : Card → ℕ → Bool
is_to_speed_up card argument = (field 31 31 argument == 1) && has_high_speed card.made

abbrev pub timing_after : Card → ℕ → Timing
timing_after card argument = if is_to_speed_up card argument then High else card.timing

-- A switch status in which bits 379 to 376 select function 15, none, or function 0, default speed
-- (SD Physical Layer 6.00, section 4.3.10.4).
abbrev pub refusal : Bool → List ℕ → List ℕ
refusal selects_none status =
    slice_set status 16 (16 * field 7 4 (slice_index status 16) + (if selects_none then 15 else 0))

-- The bytes of a switch status of which something is read: whether the card has high speed, and which function of group 1 is
-- selected.
abbrev pub is_read_of_status : ℕ → Bool
is_read_of_status place = (place == 13) || (place == 16)

-- these bytes, with others in places that aren't read
abbrev pub reread : (ℕ → Bool) → List (ℕ × ℕ) → List ℕ → List ℕ
reread is_read [] bytes = bytes
reread is_read (other ∷ others) bytes =
    reread is_read others (if is_read other.0 then bytes else slice_set bytes other.0 (other.1 % 256))

-- with this function of group 2, which has the high half of byte 16, or the one that it had
abbrev pub with_second_group : Option ℕ → List ℕ → List ℕ
with_second_group None status = status
with_second_group (Some function) status =
    slice_set status 16 (16 * (function % 16) + field 3 0 (slice_index status 16))

-- A switch status as it is sent this time: with another current, other functions of the other groups, or functions that are busy
-- (SD Physical Layer 6.00, section 4.3.10 and table 4-13).
abbrev pub status_sent : Choice → List ℕ → List ℕ
status_sent choice status = with_second_group choice.second_group (reread is_read_of_status choice.unread status)

-- The 64 bytes that the card sends: its switch status, and once that is sent it has switched; or, where it is to switch
-- and leaves high speed unselected, a status that says so, and the timing stays (SD Physical Layer 6.00, section 4.3.10).
abbrev pub switch_source : Choice → Card → ℕ → Source
switch_source choice card argument =
    if is_to_speed_up card argument && choice.refuses_speed
    then FromBytes (status_sent choice (refusal choice.selects_none card.made.switch_status)) card.timing
    else FromBytes (status_sent choice card.made.switch_status) (timing_after card argument)

-- CMD6 of SD, SWITCH_FUNC
abbrev pub switch_func : Choice → Card → ℕ → Card × CardAnswer
switch_func choice card argument =
    (sending_from (switch_source choice card argument) card, Checked Index.SWITCH_FUNC (status false card))

-- PARTITION_ACCESS (JESD84-B51, section 7.4.69)
abbrev pub access_number : Part → ℕ
access_number User = 0
access_number Boot1 = 1
access_number Boot2 = 2
access_number Gp1 = 4
access_number Gp2 = 5
access_number Gp3 = 6
access_number Gp4 = 7

abbrev pub part_accessed : ℕ → Option Part
part_accessed access =
    if access == 0 then Some User else if access == 1 then Some Boot1 else if access == 2 then Some Boot2
    else if access == 4 then Some Gp1 else if access == 5 then Some Gp2 else if access == 6 then Some Gp3
    else if access == 7 then Some Gp4 else None

-- Byte 179 by the partition that is accessed; its bits 7 to 3 never change.
abbrev pub partition_config_for : Made → Part → ℕ
partition_config_for made part = 8 * field 7 3 (partition_config made.ext_csd) + access_number part

-- BUS_WIDTH and HS_TIMING (JESD84-B51, sections 7.4.67 and 7.4.65)
abbrev pub width_number : Width → ℕ
width_number One = 0
width_number Four = 1
width_number Eight = 2

abbrev pub timing_number : Timing → ℕ
timing_number Default = 0
timing_number High = 1

-- the EXT_CSD as it is, with the bytes that can be switched
abbrev pub ext_csd_now : Card → List ℕ
ext_csd_now card =
    slice_set (slice_set (slice_set (slice_set card.made.ext_csd 175 card.erase_group_def)
    179 (partition_config_for card.made card.part)) 183 (width_number card.width)) 185 (timing_number card.timing)

-- The bytes that are read of an EXT_CSD. All others are open at each CMD8: life time, BKOPS_STATUS, the exceptions and
-- CORRECTLY_PRG_SECTORS_NUM change while a device works, and BUS_WIDTH needn't be readable (JESD84-B51, section 7.4).
abbrev pub is_read : ℕ → Bool
is_read place =
    (nat_le 143 place && nat_le place 155) || ((place == 175) || ((place == 179) || ((place == 181)
    || ((place == 185) || ((place == 192) || ((place == 196) || ((nat_le 212 place && nat_le place 215)
    || ((place == 221) || ((place == 224) || ((place == 226) || (place == 231)))))))))))

-- CMD8 of eMMC, SEND_EXT_CSD
abbrev pub send_ext_csd : Choice → Card → Card × CardAnswer
send_ext_csd choice card =
    (sending (reread is_read choice.unread (ext_csd_now card)) card.timing card, Checked Index.SEND_IF_COND (status false card))

-- a block that says what is read of the EXT_CSD
pub record IsExtCsdOf (card : Card) (block : List ℕ) : Type 0 where
  pub len : length block ≡ length (ext_csd_now card)
  pub read : (place : ℕ) → is_read place ≡ true → slice_index block place ≡ slice_index (ext_csd_now card) place

-- the argument of CMD6 of eMMC that writes a byte (JESD84-B51, section 6.6.1): access 3 in bits 25 and 24
abbrev pub write_byte : ℕ → ℕ → ℕ
write_byte index value = 3 * 2 ^ 24 + index * 2 ^ 16 + value * 2 ^ 8

-- a partition with no sector isn't selected
abbrev pub accessed : Card → Option Part → Option Card
accessed card (Some part) = if length (stored card part) == 0 then None else Some (record card { part = part })
accessed card None = None

-- Byte 179 with another access number.
abbrev pub access_switched : Card → ℕ → Option Card
access_switched card argument =
    if argument == write_byte 179 (8 * field 7 3 (partition_config card.made.ext_csd) + field 10 8 argument)
    then accessed card (part_accessed (field 10 8 argument))
    else None

-- The switches that the card knows: ERASE_GROUP_DEF 1, eight lines or four, high speed at 52 MHz where it has it, and a
-- partition. Others change no byte (the project's own: the host sends no others).
abbrev pub switched : Card → ℕ → Option Card
switched card argument =
    if argument == write_byte 175 1 then Some (record card { erase_group_def = 1 })
    else if argument == write_byte 183 2 then Some (record card { width = Eight })
    else if argument == write_byte 183 1 then Some (record card { width = Four })
    else if (argument == write_byte 185 1) && (high_speed_at_52_mhz card.made.ext_csd == 1)
    then Some (record card { timing = High })
    else access_switched card argument

-- CMD6 of eMMC, SWITCH: programming in any case, and SWITCH_ERROR where no byte changed, in the response or, said late,
-- in the first status after it that doesn't keep it back (JESD84-B51, section 6.6.1)
abbrev pub programs_switch : Card → Card
programs_switch card = record (busied (shown card)) { state = Prg; is_switching = true; values = [] }

abbrev pub switch_row : Bool → Card → Option Card → Card × CardAnswer
switch_row says_late card (Some after) = (programs_switch after, Checked Index.SWITCH_FUNC (status false card))
switch_row says_late card None = (
  record (programs_switch card) { switch_error = says_late },
  Checked Index.SWITCH_FUNC
      (status false (record card { switch_error = not says_late || card.switch_error })),
)

-- one that fails changes no byte
abbrev pub switch_byte : Choice → Card → ℕ → Card × CardAnswer
switch_byte choice card argument =
    switch_row choice.says_late card (if choice.fails_switch then None else switched card argument)
