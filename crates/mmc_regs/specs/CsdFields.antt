-- Headline (docs/AUDIT.md, "What to read").
-- The fields of the CSD, a register of 128 bits, by their bits: version 1.0 of SD cards (SD Physical Layer 6.00,
-- section 5.3.2) and, down to TMP_WRITE_PROTECT, the CSD of eMMC devices too (JESD84-B51, section 7.3).
use Rattle.std.specs.Prelude.{◌*◌, ◌+◌, ◌/◌, ◌==◌, ◌^◌, if◌then◌else◌, ℕ}
use Rattle.mmc_frame.specs.Field.{field}

abbrev pub csd_structure : ℕ → ℕ
csd_structure csd = field 127 126 csd

-- CCC: the classes of commands that the card has, class 0 in the lowest bit
abbrev pub ccc : ℕ → ℕ
ccc csd = field 95 84 csd

-- bit 10 of CCC
abbrev pub class_10 : ℕ → ℕ
class_10 csd = field 94 94 csd

abbrev pub read_bl_len : ℕ → ℕ
read_bl_len csd = field 83 80 csd

abbrev pub c_size : ℕ → ℕ
c_size csd = field 73 62 csd

abbrev pub c_size_mult : ℕ → ℕ
c_size_mult csd = field 49 47 csd

abbrev pub perm_write_protect : ℕ → ℕ
perm_write_protect csd = field 13 13 csd

abbrev pub tmp_write_protect : ℕ → ℕ
tmp_write_protect csd = field 12 12 csd

-- of version 1.0 alone
abbrev pub erase_blk_en : ℕ → ℕ
erase_blk_en csd = field 46 46 csd

abbrev pub sector_size : ℕ → ℕ
sector_size csd = field 45 39 csd

abbrev pub write_bl_len : ℕ → ℕ
write_bl_len csd = field 25 22 csd

-- of version 2.0, whose CCC and protect bits stand as above (SD Physical Layer 6.00, section 5.3.3)
abbrev pub c_size_v2 : ℕ → ℕ
c_size_v2 csd = field 69 48 csd

-- TMP_WRITE_PROTECT set
abbrev pub with_protection : ℕ → ℕ
with_protection csd = if tmp_write_protect csd == 1 then csd else csd + 2 ^ 12

-- all above TMP_WRITE_PROTECT, and 0 from it on down
abbrev pub lasting_number : ℕ → ℕ
lasting_number csd = csd / 2 ^ 13 * 2 ^ 13
