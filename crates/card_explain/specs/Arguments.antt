-- What the argument of a command asks for (SD Physical Layer 6.00, section 4.7.4; JESD84-B51, section 6.10.4).
use Rattle.std.specs.Prelude.{ℕ, ◌/◌, ◌%◌, ◌==◌, List, [], ◌++◌, codes, if◌then◌else◌}
use Rattle.std.specs.Fmt.{decimal}
use Rattle.mmc_card.specs.declared.command.Command.{Command}
use Rattle.mmc_card.specs.declared.command.Command.TheVariants.{AppCmd, Erase, EraseEnd, EraseStart, ReadMultipleBlock}
use Rattle.mmc_card.specs.declared.command.Command.TheVariants.{ReadSingleBlock, SelectCard, SendCsd, SendStatus, SetBlockCount}
use Rattle.mmc_card.specs.declared.command.Command.TheVariants.{SetBlocklen, SetBusWidth, SetRelativeAddr, Switch, SwitchFunc}
use Rattle.mmc_card.specs.declared.command.Command.TheVariants.{WriteBlock, WriteMultipleBlock}
use Rattle.mmc_frame.specs.Field.{field}
use Rattle.mmc_frame.specs.declared.addressing.Addressing.{Addressing}
use Rattle.mmc_frame.specs.declared.addressing.Addressing.TheVariants.{Bytes, Sectors}

-- the sector at an address, or the byte where it is no sector's first
abbrev pub sector_words : Addressing → ℕ → List ℕ
sector_words Sectors address = codes ", sector " ++ decimal address
sector_words Bytes address =
    if address % 512 == 0 then codes ", sector " ++ decimal (address / 512) else codes ", byte " ++ decimal address

-- the RCA in bits 31 to 16
abbrev pub rca_words : ℕ → List ℕ
rca_words argument = codes ", RCA " ++ decimal (field 31 16 argument)

-- so many of a unit
abbrev pub count_words : ℕ → List ℕ → List ℕ
count_words count unit = codes ", " ++ (decimal count ++ unit)

-- A byte of the EXT_CSD; those that a host of this kind writes have their names (JESD84-B51, section 7.4).
unfoldable pub byte_words : ℕ → List ℕ
byte_words byte =
    if byte == 175 then codes ", ERASE_GROUP_DEF"
    else if byte == 179 then codes ", PARTITION_CONFIG"
    else if byte == 183 then codes ", BUS_WIDTH"
    else if byte == 185 then codes ", HS_TIMING"
    else codes ", byte " ++ decimal byte

-- the partition that PARTITION_ACCESS, bits 2 to 0, selects (JESD84-B51, section 7.4.69)
abbrev pub part_words : ℕ → List ℕ
part_words value =
    if value % 8 == 0 then codes ": user"
    else if value % 8 == 1 then codes ": boot1"
    else if value % 8 == 2 then codes ": boot2"
    else if value % 8 == 3 then codes ": RPMB"
    else if value % 8 == 4 then codes ": gp1"
    else if value % 8 == 5 then codes ": gp2"
    else if value % 8 == 6 then codes ": gp3" else codes ": gp4"

-- how many lines BUS_WIDTH sets (JESD84-B51, section 7.4.67)
abbrev pub lines_words : ℕ → List ℕ
lines_words value =
    if value == 0 then codes ": one line"
    else if value == 1 then codes ": four lines"
    else if value == 2 then codes ": eight lines" else []

-- which timing HS_TIMING selects, by bits 3 to 0 (JESD84-B51, section 7.4.65)
abbrev pub timing_words : ℕ → List ℕ
timing_words value =
    if value % 16 == 0 then codes ": default speed"
    else if value % 16 == 1 then codes ": high speed"
    else if value % 16 == 2 then codes ": HS200"
    else if value % 16 == 3 then codes ": HS400" else []

-- what a byte is switched to
abbrev pub value_words : ℕ → ℕ → List ℕ
value_words byte value =
    if byte == 179 then part_words value
    else if byte == 183 then lines_words value
    else if byte == 185 then timing_words value else []

-- the byte, in bits 23 to 16, and its value, in bits 15 to 8
abbrev pub switch_words : ℕ → List ℕ
switch_words argument =
    byte_words (field 23 16 argument)
    ++ (codes " to " ++ (decimal (field 15 8 argument) ++ value_words (field 23 16 argument) (field 15 8 argument)))

-- another function of group 1 than high speed, in bits 3 to 0; bit 31: it switches
abbrev pub other_function : ℕ → List ℕ
other_function argument =
    (if field 31 31 argument == 1 then codes ", switches group 1 to function " else codes ", asks group 1 for function ")
    ++ decimal (field 3 0 argument)

-- function 1 of group 1 is high speed
abbrev pub function_words : ℕ → List ℕ
function_words argument =
    if field 3 0 argument == 1
    then (if field 31 31 argument == 1 then codes ", switches to high speed" else codes ", asks for high speed")
    else other_function argument

-- bits 1 and 0: 2 for four lines
abbrev pub width_words : ℕ → List ℕ
width_words argument = if field 1 0 argument == 2 then codes ", four lines" else codes ", one line"

-- 1 trims
abbrev pub erase_words : ℕ → List ℕ
erase_words argument = if argument == 1 then codes ", trim" else []

unfoldable pub argument_words : Addressing → Command → ℕ → List ℕ
argument_words addressing SelectCard argument = rca_words argument
argument_words addressing SendCsd argument = rca_words argument
argument_words addressing SendStatus argument = rca_words argument
argument_words addressing AppCmd argument = rca_words argument
argument_words addressing SetRelativeAddr argument = rca_words argument
argument_words addressing ReadSingleBlock argument = sector_words addressing argument
argument_words addressing ReadMultipleBlock argument = sector_words addressing argument
argument_words addressing WriteBlock argument = sector_words addressing argument
argument_words addressing WriteMultipleBlock argument = sector_words addressing argument
argument_words addressing EraseStart argument = sector_words addressing argument
argument_words addressing EraseEnd argument = sector_words addressing argument
argument_words addressing SetBlocklen argument = count_words argument (codes " bytes")
argument_words addressing SetBlockCount argument = count_words (field 15 0 argument) (codes " blocks")
argument_words addressing Switch argument = switch_words argument
argument_words addressing SwitchFunc argument = function_words argument
argument_words addressing SetBusWidth argument = width_words argument
argument_words addressing Erase argument = erase_words argument
argument_words addressing command argument = []
