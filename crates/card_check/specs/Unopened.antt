-- Why a card isn't opened, by its registers, and how that is said.
use Rattle.std.specs.Prelude.{◌++◌, ◌<◌, ◌∷◌, ◌≡◌, ◌⊎◌, List, [], codes, false, true, ℕ}
use Rattle.std.specs.Fmt.{decimal}
use Rattle.std.specs.Int.{to_be_bytes, w32}
use Rattle.text_out.specs.Hex.{hex_text}
use Rattle.mmc_frame.specs.declared.kind.Kind.TheVariants.{Mmc, Sd}
use Rattle.mmc_regs.specs.Csd.{has_block_length}
use Rattle.mmc_regs.specs.CsdFields.{csd_structure, read_bl_len, write_bl_len}
use Rattle.mmc_regs.specs.Ocr.{access_mode, card_capacity_status, window_at_3_3_volts}
use Rattle.mmc_ext_csd.specs.ExtCsd.{data_sector_size, ext_csd_rev, has_protection, hc_erase_grp_size, sec_count}
use Rattle.mmc_card.specs.Made.{Made, csd_number_of}
use Rattle.card_check.specs.declared.unopened.Unopened.{Unopened}
use Rattle.card_check.specs.declared.unopened.Unopened.TheVariants.{AccessMode, BytesByOcr, Locked, NeverReady, NoEraseUnit}
use Rattle.card_check.specs.declared.unopened.Unopened.TheVariants.{NoSectors, ReadLength, Revision, SectorsByOcr, Structure}
use Rattle.card_check.specs.declared.unopened.Unopened.TheVariants.{Window, WriteLength}

-- its READ_BL_LEN counts: an SD card's of CSD version 1.0, or that of an eMMC device with byte addresses
abbrev pub HasBlockLengths : Made → Type 0
HasBlockLengths made =
    ((made.kind ≡ Sd) × (csd_structure (csd_number_of made) ≡ 0)) ⊎ ((made.kind ≡ Mmc) × (access_mode made.ocr ≡ 0))

-- What is so of a card that isn't opened for this reason.
abbrev pub IsWhy : Made → Unopened → Type 0
IsWhy made (Window ocr) = (ocr ≡ made.ocr) × (window_at_3_3_volts ocr ≡ 3 → ⊥)
IsWhy made (NeverReady ocr) =
    (ocr ≡ made.ocr) × (made.kind ≡ Sd) × (card_capacity_status ocr ≡ 1) × (made.answers_cmd8 ≡ false)
IsWhy made Locked = made.is_locked ≡ true
IsWhy made (Structure number) = (number ≡ csd_structure (csd_number_of made)) × (made.kind ≡ Sd) × (1 < number)
IsWhy made (ReadLength read) =
    (read ≡ read_bl_len (csd_number_of made)) × (has_block_length read ≡ false) × HasBlockLengths made
IsWhy made (WriteLength write) =
    (write ≡ write_bl_len (csd_number_of made)) × (has_block_length write ≡ false) × (made.kind ≡ Sd)
    × (csd_structure (csd_number_of made) ≡ 0)
IsWhy made (SectorsByOcr ocr) =
    (ocr ≡ made.ocr) × (made.kind ≡ Sd) × (card_capacity_status ocr ≡ 1) × (csd_structure (csd_number_of made) ≡ 0)
IsWhy made (BytesByOcr ocr) =
    (ocr ≡ made.ocr) × (made.kind ≡ Sd) × (card_capacity_status ocr ≡ 0) × (csd_structure (csd_number_of made) ≡ 1)
IsWhy made (AccessMode ocr) =
    (ocr ≡ made.ocr) × (made.kind ≡ Mmc) × (access_mode ocr ≡ 0 → ⊥) × (access_mode ocr ≡ 2 → ⊥)
IsWhy made (Revision number) = (number ≡ ext_csd_rev made.ext_csd) × (made.kind ≡ Mmc) × (number < 5)
IsWhy made NoEraseUnit = (made.kind ≡ Mmc) × (hc_erase_grp_size made.ext_csd ≡ 0)
IsWhy made NoSectors = (made.kind ≡ Mmc) × (access_mode made.ocr ≡ 2) × (sec_count made.ext_csd ≡ 0)

-- What the profile asks of an eMMC device and no opening judges: sectors of 512 bytes, and no write protection by USER_WP
-- or BOOT_WP.
pub record IsPlain (made : Made) : Type 0 where
  pub sector_size : made.kind ≡ Mmc → data_sector_size made.ext_csd ≡ 0
  pub unprotected : made.kind ≡ Mmc → has_protection made.ext_csd ≡ false

-- The words.

abbrev pub ocr_text : ℕ → List ℕ
ocr_text ocr = codes "OCR " ++ hex_text (to_be_bytes w32 ocr)

-- the field that speaks against it, with its value
abbrev pub field_text : Unopened → List ℕ
field_text (Window ocr) = ocr_text ocr
field_text (NeverReady ocr) = ocr_text ocr
field_text Locked = codes "CARD_IS_LOCKED, bit 25 of the card status, is 1"
field_text (Structure number) = codes "CSD_STRUCTURE is " ++ decimal number
field_text (ReadLength read) = codes "READ_BL_LEN is " ++ decimal read
field_text (WriteLength write) = codes "WRITE_BL_LEN is " ++ decimal write
field_text (SectorsByOcr ocr) = ocr_text ocr
field_text (BytesByOcr ocr) = ocr_text ocr
field_text (AccessMode ocr) = ocr_text ocr
field_text (Revision number) = codes "EXT_CSD_REV, byte 192 of the EXT_CSD, is " ++ decimal number
field_text NoEraseUnit = codes "HC_ERASE_GRP_SIZE, byte 224 of the EXT_CSD, is 0"
field_text NoSectors = codes "SEC_COUNT, bytes 212 to 215 of the EXT_CSD, is 0"

-- and why
abbrev pub why_text : Unopened → List ℕ
why_text (Window ocr) = codes " hasn't both bits 21 and 20, 3.2 to 3.4 V"
why_text (NeverReady ocr) = codes " says sector addresses, but a card without CMD8 isn't told HCS and is never ready"
why_text (Structure number) = codes ", and 0 or 1 in an SD card that is supported"
why_text (ReadLength read) = codes ", and from 9 to 11 in a card with byte addresses that is supported"
why_text (WriteLength write) = codes ", and from 9 to 11 in a card with byte addresses that is supported"
why_text (SectorsByOcr ocr) = codes " says sector addresses, CSD_STRUCTURE 0 says bytes"
why_text (BytesByOcr ocr) = codes " says byte addresses, CSD_STRUCTURE 1 says sectors"
why_text (AccessMode ocr) = codes " has an access mode, bits 30 and 29, that is reserved"
why_text (Revision number) = codes ", and at least 5 in a device that is supported"
why_text why = []

-- a sentence for each reason
abbrev pub sentence_of : Unopened → List ℕ
sentence_of why = field_text why ++ why_text why

-- what `serve` and `nbd` answer
abbrev pub answer_of : Unopened → List ℕ
answer_of (Window ocr) = codes "voltage"
answer_of (NeverReady ocr) = codes "no card"
answer_of Locked = codes "locked"
answer_of why = codes "unsupported"

abbrev pub front_text : Unopened → List ℕ
front_text why = codes "card: not opened (" ++ (answer_of why ++ codes "): ")

-- card: not opened (ANSWER): SENTENCE
abbrev pub unopened_line : Unopened → List ℕ
unopened_line why = front_text why ++ (sentence_of why ++ (10 ∷ []))
