-- Relation (docs/AUDIT.md, "What to read").
-- The SCR of an SD card, a register of 64 bits (SD Physical Layer 6.00, section 5.6).
use Rattle.std.specs.Prelude.{ℕ, ◌==◌, List, if◌then◌else◌}
use Rattle.byteorder.specs.Endian.{big_number}
use Rattle.mmc_frame.specs.Field.{field}

-- eight bytes as a whole number, the first byte the highest
abbrev pub scr_number : List ℕ → ℕ
scr_number block = big_number 8 block

abbrev pub sd_spec : ℕ → ℕ
sd_spec scr = field 59 56 scr

abbrev pub data_stat_after_erase : ℕ → ℕ
data_stat_after_erase scr = field 55 55 scr

-- bit 2 of SD_BUS_WIDTHS, which are bits 51 to 48: four lines
abbrev pub four_lines : ℕ → ℕ
four_lines scr = field 50 50 scr

-- bit 1 of CMD_SUPPORT, which are bits 35 to 32: CMD23
abbrev pub set_block_count : ℕ → ℕ
set_block_count scr = field 33 33 scr

-- what each byte of an erased sector holds
abbrev pub erased_byte : ℕ → ℕ
erased_byte scr = if data_stat_after_erase scr == 0 then 0 else 0xff
