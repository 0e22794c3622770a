-- What is said of the registers of a card that contradict.
use Rattle.std.specs.Prelude.{◌&&◌, ◌++◌, ◌==◌, ◌∷◌, Bool, Err, List, None, Ok, Option, Result, Some, [], codes, if◌then◌else◌, not, slice_index, slice_range, ℕ}
use Rattle.std.specs.Fmt.{decimal}
use Rattle.text_out.specs.Hex.{hex_text}
use Rattle.mmc_frame.specs.RegisterFrame.{has_end_bit, is_sound_register, with_check}
use Rattle.mmc_regs.specs.Csd.{csd_in, sectors_of}
use Rattle.mmc_regs.specs.declared.csd.Csd.{Csd}
use Rattle.mmc_regs.specs.declared.fault.RegFault.{RegFault}
use Rattle.mmc_regs.specs.declared.fault.RegFault.TheVariants.{Range, Structure}
use Rattle.mmc_ext_csd.specs.ExtCsd.{sec_count}
use Rattle.mmc_card.specs.Made.{has_sector_addresses, is_mmc}
use Rattle.mmc_card_sim.specs.CardSpec.{has_access_mode, has_erase_unit, has_no_ready_bit, has_user_sectors}
use Rattle.mmc_card_sim.specs.CardSpec.{refusal_within, works_at_3_3_volts}
use Rattle.mmc_card_sim.specs.Registers.{ext_csd_of, kind_of, made_of}
use Rattle.mmc_card_rows.specs.declared.store.TheConstants.{MAX_LARGE}
use Rattle.mmc_card_rows.specs.declared.registers.KindRegisters.{KindRegisters}
use Rattle.mmc_card_rows.specs.declared.registers.KindRegisters.TheVariants.{Mmc, Sd}
use Rattle.mmc_card_rows.specs.declared.registers.Registers.{Registers}
use Rattle.mmc_card_sim.specs.declared.spec.BuildFault.{BuildFault}
use Rattle.mmc_card_sim.specs.declared.spec.BuildFault.TheVariants.{ImageSize}
use Rattle.mmc_card_sim.specs.declared.spec.CardSpec.{CardSpec}

-- this is said where something isn't so
abbrev pub unless : Bool → List ℕ → List ℕ
unless good text = if good then [] else text

-- a line that says one thing
abbrev pub line_text : List ℕ → List ℕ
line_text words = codes "card: " ++ (words ++ (10 ∷ []))

-- The check of a CID or CSD fits, and its end bit is 1.
abbrev pub is_checked : List ℕ → Bool
is_checked register = is_sound_register register && has_end_bit register

-- the last byte that fits its others
abbrev pub right_check : List ℕ → ℕ
right_check register = slice_index (with_check (slice_range register 0 15)) 15

-- its last byte, and the one that fits
unfoldable pub last_text : List ℕ → List ℕ → List ℕ
last_text name register =
    codes "card: the last byte of the " ++ (name ++ (codes " is " ++ hex_text (slice_index register 15 ∷ [])))

unfoldable pub right_text : List ℕ → List ℕ
right_text register =
    codes ", but its check and end bit are " ++ (hex_text (right_check register ∷ []) ++ (10 ∷ []))

abbrev pub check_line : List ℕ → List ℕ → List ℕ
check_line name register = last_text name register ++ right_text register

abbrev pub check_text : List ℕ → List ℕ → List ℕ
check_text name register = unless (is_checked register) (check_line name register)

-- why a CSD is refused whose check fits
abbrev pub csd_text : Result Csd RegFault → List ℕ
csd_text (Err Structure) =
    line_text (codes "CSD_STRUCTURE, bits 127 and 126 of the CSD, has to be 0 or 1 of an SD card")
csd_text (Err Range) =
    line_text (codes "READ_BL_LEN and WRITE_BL_LEN, bits 83 to 80 and 25 to 22 of the CSD, have to be from 9 to 11")
csd_text read = []

abbrev pub window_line : List ℕ
window_line = line_text (codes "bits 21 and 20 of the OCR, 3.2 to 3.4 V, have to be 1")

abbrev pub ready_line : List ℕ
ready_line = line_text (codes "bit 31 of the OCR has to be 0: it is the card that sets it once it is ready")

-- the OCR
abbrev pub ocr_text : ℕ → List ℕ
ocr_text ocr = unless (works_at_3_3_volts ocr) window_line ++ unless (has_no_ready_bit ocr) ready_line

abbrev pub mode_line : List ℕ
mode_line =
    line_text (codes "bits 30 and 29 of the OCR have to be 2 for sector addresses, or 0 for byte addresses")

abbrev pub unit_line : List ℕ
unit_line = line_text (codes "byte 224 of the EXT_CSD, HC_ERASE_GRP_SIZE, has to be above 0 (ext 224)")

-- what only an eMMC device has
abbrev pub mmc_text : List ℕ → ℕ → List ℕ
mmc_text ext_csd ocr = unless (has_access_mode ocr) mode_line ++ unless (has_erase_unit ext_csd) unit_line

-- what a card has by its kind
abbrev pub kind_text : KindRegisters → ℕ → List ℕ
kind_text (Sd sd) ocr = unless (not (sd.rca == 0)) (line_text (codes "rca has to be above 0"))
kind_text (Mmc mmc) ocr = mmc_text mmc.ext_csd ocr

-- the size of the user partition stands in the EXT_CSD
abbrev pub has_sec_count : Registers → Bool
has_sec_count registers = is_mmc (kind_of registers.kind) && has_sector_addresses (made_of registers)

abbrev pub sectors_by : Result Csd RegFault → Option ℕ
sectors_by (Ok csd) = Some (sectors_of csd)
sectors_by (Err fault) = None

-- its size in sectors, where no register that has it is refused
abbrev pub sectors_told : Registers → Option ℕ
sectors_told registers =
    if has_sec_count registers then Some (sec_count (ext_csd_of registers.kind))
    else sectors_by (csd_in (kind_of registers.kind) registers.csd)

-- which register has it
abbrev pub teller_words : Registers → List ℕ
teller_words registers =
    if has_sec_count registers then codes "bytes 212 to 215 of the EXT_CSD say " else codes "the CSD says "

unfoldable pub sectors_line : ℕ → List ℕ → ℕ → List ℕ
sectors_line wanted teller sectors =
    codes "card: sectors is " ++ (decimal wanted ++ (codes ", but " ++ (teller ++ (decimal sectors ++ (10 ∷ [])))))

abbrev pub sectors_by_text : ℕ → List ℕ → Option ℕ → List ℕ
sectors_by_text wanted teller None = []
sectors_by_text wanted teller (Some sectors) =
    unless (has_user_sectors sectors wanted) (sectors_line wanted teller sectors)

abbrev pub sectors_text : CardSpec → List ℕ
sectors_text spec = sectors_by_text spec.sectors (teller_words spec.registers) (sectors_told spec.registers)

-- a line for each contradiction of the registers
abbrev pub registers_text : CardSpec → List ℕ
registers_text spec =
    check_text (codes "CID") spec.registers.cid
    ++ (check_text (codes "CSD") spec.registers.csd
    ++ (csd_text (csd_in (kind_of spec.registers.kind) spec.registers.csd)
    ++ (ocr_text spec.registers.ocr ++ (kind_text spec.registers.kind spec.registers.ocr ++ sectors_text spec))))

abbrev pub size_text : Option BuildFault → List ℕ
size_text (Some ImageSize) = line_text (codes "the partitions have more than 4194304 sectors together")
size_text refusal = []

-- and after them that the card is too large
abbrev pub contradictions : CardSpec → List ℕ
contradictions spec = registers_text spec ++ size_text (refusal_within MAX_LARGE spec)
