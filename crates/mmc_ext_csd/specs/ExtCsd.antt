-- Headline (docs/AUDIT.md, "What to read").
-- The EXT_CSD of an eMMC device, 512 bytes (JESD84-B51, section 7.4). A field of several bytes has its lowest byte
-- first.
use Rattle.std.specs.Prelude.{ℕ, ◌+◌, ◌-◌, ◌*◌, ◌==◌, ◌||◌, nat_lt, Bool, List, if◌then◌else◌, slice_index, Result, Ok}
use Rattle.std.specs.Prelude.{Err}
use Rattle.byteorder.specs.Endian.{little_from}
use Rattle.mmc_frame.specs.Field.{field}
use Rattle.mmc_ext_csd.specs.declared.fault.ExtFault.{ExtFault}
use Rattle.mmc_ext_csd.specs.declared.fault.ExtFault.TheVariants.{Revision, ZeroSize}

-- DATA_SECTOR_SIZE: 0 for sectors of 512 bytes, 1 for 4 KiB
abbrev pub data_sector_size : List ℕ → ℕ
data_sector_size block = slice_index block 61

-- GP_SIZE_MULT of the general purpose partition i, 1 to 4: three bytes, of which the first one's begin at 143
abbrev pub gp_size_mult : ℕ → List ℕ → ℕ
gp_size_mult i block = little_from (143 + 3 * (i - 1)) 3 block

-- PARTITION_SETTING_COMPLETED, bit 0: 1 where the sizes of the general purpose partitions count
abbrev pub partition_setting_completed : List ℕ → ℕ
partition_setting_completed block = field 0 0 (slice_index block 155)

-- Write protection is on, of the user area by USER_WP or of a boot partition by BOOT_WP: bit 2 for good, bit 0 until the
-- power is off.
abbrev pub turns_on : ℕ → Bool
turns_on byte = (field 2 2 byte == 1) || (field 0 0 byte == 1)

abbrev pub has_protection : List ℕ → Bool
has_protection block = turns_on (slice_index block 171) || turns_on (slice_index block 173)

-- ERASE_GROUP_DEF: 1 where the erase unit is that of byte 224
abbrev pub erase_group_def : List ℕ → ℕ
erase_group_def block = slice_index block 175

-- PARTITION_CONFIG, whose bits 2 to 0 name the partition that is accessed
abbrev pub partition_config : List ℕ → ℕ
partition_config block = slice_index block 179

-- ERASED_MEM_CONT
abbrev pub erased_mem_cont : List ℕ → ℕ
erased_mem_cont block = slice_index block 181

-- BUS_WIDTH: 0, 1 and 2 for 1, 4 and 8 lines
abbrev pub bus_width : List ℕ → ℕ
bus_width block = slice_index block 183

-- HS_TIMING: 1 for high speed
abbrev pub hs_timing : List ℕ → ℕ
hs_timing block = slice_index block 185

abbrev pub ext_csd_rev : List ℕ → ℕ
ext_csd_rev block = slice_index block 192

-- bit 1 of DEVICE_TYPE: high speed at 52 MHz
abbrev pub high_speed_at_52_mhz : List ℕ → ℕ
high_speed_at_52_mhz block = field 1 1 (slice_index block 196)

-- SEC_COUNT, bytes 212 to 215
abbrev pub sec_count : List ℕ → ℕ
sec_count block = little_from 212 4 block

abbrev pub hc_wp_grp_size : List ℕ → ℕ
hc_wp_grp_size block = slice_index block 221

-- in units of 512 KiB
abbrev pub hc_erase_grp_size : List ℕ → ℕ
hc_erase_grp_size block = slice_index block 224

-- in units of 128 KiB
abbrev pub boot_size_mult : List ℕ → ℕ
boot_size_mult block = slice_index block 226

-- bit 4 of SEC_FEATURE_SUPPORT: trim
abbrev pub trim_support : List ℕ → ℕ
trim_support block = field 4 4 (slice_index block 231)

-- the size of a boot partition in sectors of 512 bytes
abbrev pub boot_sectors : List ℕ → ℕ
boot_sectors block = boot_size_mult block * 256

-- the erase unit in sectors
abbrev pub erase_unit : List ℕ → ℕ
erase_unit block = hc_erase_grp_size block * 1024

-- what each byte of an erased sector holds
abbrev pub erased_byte : List ℕ → ℕ
erased_byte block = if erased_mem_cont block == 0 then 0 else 0xff

-- a write protect group in sectors: so many erase units
abbrev pub write_protect_group : List ℕ → ℕ
write_protect_group block = hc_wp_grp_size block * erase_unit block

-- the size of the general purpose partition i, 1 to 4, in sectors: so many write protect groups
abbrev pub gp_sectors : ℕ → List ℕ → ℕ
gp_sectors i block =
    if partition_setting_completed block == 0 then 0
    else gp_size_mult i block * write_protect_group block

-- the EXT_CSD in a block, as its bytes, otherwise the first fault
abbrev pub ext_csd_in : List ℕ → Result (List ℕ) ExtFault
ext_csd_in block =
    if nat_lt (ext_csd_rev block) 5 then Err Revision
    else (if hc_erase_grp_size block == 0 then Err ZeroSize else Ok block)
