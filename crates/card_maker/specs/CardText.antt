-- The card file of a card, line by line.
use Rattle.std.specs.Prelude.{ℕ, List, [], ◌∷◌, ◌++◌, codes, if◌then◌else◌, ◌==◌, suc}
use Rattle.std.specs.Int.{to_be_bytes, w32}
use Rattle.std.specs.Fmt.{decimal}
use Rattle.text_out.specs.Hex.{hex_text}
use Rattle.mmc_frame.specs.declared.kind.Kind.{Kind}
use Rattle.mmc_frame.specs.declared.kind.Kind.TheVariants as Is
use Rattle.mmc_card_rows.specs.declared.registers.KindRegisters.{KindRegisters}
use Rattle.mmc_card_rows.specs.declared.registers.KindRegisters.TheVariants.{Mmc, Sd}
use Rattle.mmc_card_rows.specs.declared.registers.SdRegisters.{SdRegisters}
use Rattle.mmc_card_sim.specs.declared.spec.CardSpec.{CardSpec}
use Rattle.mmc_card_sim.specs.Registers.{kind_of}
use Rattle.card_maker.specs.FileLines.{choice_word, ended_lines, number_line, register_line, word_line}

abbrev pub kind_word : Kind → List ℕ
kind_word Is.Sd = codes "sd"
kind_word Is.Mmc = codes "mmc"

-- what the card is, in a comment
abbrev pub kind_title : Kind → List ℕ
kind_title Is.Sd = codes "# An SD card of"
kind_title Is.Mmc = codes "# An eMMC device of"

abbrev pub title_line : List ℕ → ℕ → List ℕ
title_line title sectors = word_line title (word_line (decimal sectors) (codes "sectors"))

-- of a card of any kind, with this title, this word for its kind and these bytes of its OCR
abbrev pub register_lines : List ℕ → List ℕ → List ℕ → CardSpec → List (List ℕ)
register_lines title kind ocr spec =
    title_line title spec.sectors
    ∷ word_line (codes "kind") kind
    ∷ register_line (codes "ocr") ocr
    ∷ register_line (codes "cid") spec.registers.cid
    ∷ register_line (codes "csd") spec.registers.csd
    ∷ number_line (codes "sectors") spec.sectors
    ∷ []

abbrev pub common_lines : CardSpec → List (List ℕ)
common_lines spec =
    let kind = kind_of spec.registers.kind in
    register_lines (kind_title kind) (kind_word kind) (to_be_bytes w32 spec.registers.ocr) spec

-- of an SD card with this SCR and these words
abbrev pub sd_part_lines : List ℕ → List ℕ → List ℕ → List (List ℕ)
sd_part_lines scr cmd8 high_speed =
    register_line (codes "scr") scr ∷ word_line (codes "cmd8") cmd8 ∷ word_line (codes "highspeed") high_speed ∷ []

abbrev pub sd_lines : SdRegisters → List (List ℕ)
sd_lines sd = sd_part_lines sd.scr (choice_word sd.answers_cmd8) (choice_word sd.has_high_speed)

-- the names of the bytes of the EXT_CSD that a card may have (JESD84-B51, section 7.4)
abbrev pub byte_name : ℕ → List ℕ
byte_name place =
    if place == 143 then codes "GP_SIZE_MULT_1, bits 7 to 0"
    else (if place == 144 then codes "GP_SIZE_MULT_1, bits 15 to 8"
    else (if place == 145 then codes "GP_SIZE_MULT_1, bits 23 to 16"
    else (if place == 155 then codes "PARTITION_SETTING_COMPLETED"
    else (if place == 160 then codes "PARTITIONING_SUPPORT"
    else (if place == 192 then codes "EXT_CSD_REV"
    else (if place == 194 then codes "CSD_STRUCTURE"
    else (if place == 196 then codes "DEVICE_TYPE"
    else (if place == 212 then codes "SEC_COUNT, bits 7 to 0"
    else (if place == 213 then codes "SEC_COUNT, bits 15 to 8"
    else (if place == 214 then codes "SEC_COUNT, bits 23 to 16"
    else (if place == 215 then codes "SEC_COUNT, bits 31 to 24"
    else (if place == 221 then codes "HC_WP_GRP_SIZE"
    else (if place == 224 then codes "HC_ERASE_GRP_SIZE"
    else (if place == 226 then codes "BOOT_SIZE_MULT"
    else (if place == 231 then codes "SEC_FEATURE_SUPPORT"
    else codes "Another byte")))))))))))))))

abbrev pub name_line : List ℕ → List ℕ
name_line name = word_line (codes "#") name

-- ext PLACE HH
abbrev pub ext_line : ℕ → List ℕ → List ℕ
ext_line place byte = word_line (codes "ext") (word_line (decimal place) (hex_text byte))

-- the name, and below it the byte
abbrev pub named_lines : List ℕ → ℕ → List ℕ → List (List ℕ)
named_lines name place byte = name_line name ∷ ext_line place byte ∷ []

-- a byte that isn't 00 has a line, with its name above it
abbrev pub byte_lines : ℕ → ℕ → List (List ℕ)
byte_lines place byte = if byte == 0 then [] else named_lines (byte_name place) place (byte ∷ [])

-- the lines of these bytes, of which the first has this place
abbrev pub ext_lines : ℕ → List ℕ → List (List ℕ)
ext_lines place [] = []
ext_lines place (byte ∷ bytes) = byte_lines place byte ++ ext_lines (suc place) bytes

-- of a card of this kind
abbrev pub own_lines : KindRegisters → List (List ℕ)
own_lines (Sd sd) = sd_lines sd
own_lines (Mmc mmc) = ext_lines 0 mmc.ext_csd

unfoldable pub card_file_text : CardSpec → List ℕ
card_file_text spec = ended_lines (common_lines spec ++ own_lines spec.registers.kind)
