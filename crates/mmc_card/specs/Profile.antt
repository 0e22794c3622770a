-- Headline (docs/AUDIT.md, "What to read").
-- In profile: the cards that the stack promises to serve, by what never changes of them. That CID and CSD are sound
-- stands in `HasRegisters`, and that the partitions are as large as the registers say in `HasItsSizes`.
use Rattle.std.specs.Prelude.{◌≡◌, ◌≤◌, ◌⊎◌, false, true}
use Rattle.mmc_frame.specs.declared.kind.Kind.TheVariants.{Mmc, Sd}
use Rattle.mmc_regs.specs.Csd.{has_block_length}
use Rattle.mmc_regs.specs.CsdFields.{csd_structure, read_bl_len, write_bl_len}
use Rattle.mmc_regs.specs.Ocr.{access_mode, card_capacity_status, window_at_3_3_volts}
use Rattle.mmc_ext_csd.specs.ExtCsd.{data_sector_size, ext_csd_rev, has_protection, hc_erase_grp_size, sec_count}
use Rattle.mmc_card.specs.Made.{Made, csd_number_of}

-- an SD card of standard capacity: CSD version 1.0 with blocks of 512 to 2048 bytes, and byte addresses
pub record IsStandardCapacity (made : Made) : Type 0 where
  pub version : csd_structure (csd_number_of made) ≡ 0
  pub read_length : has_block_length (read_bl_len (csd_number_of made)) ≡ true
  pub write_length : has_block_length (write_bl_len (csd_number_of made)) ≡ true
  pub ccs : card_capacity_status made.ocr ≡ 0

-- an SD card of high or extended capacity: CSD version 2.0 and sector addresses, and it knows CMD8
pub record IsHighCapacity (made : Made) : Type 0 where
  pub version : csd_structure (csd_number_of made) ≡ 1
  pub ccs : card_capacity_status made.ocr ≡ 1
  pub told : made.answers_cmd8 ≡ true

pub record SdInProfile (made : Made) : Type 0 where
  pub named : made.is_nameless ≡ false
  pub capacity : IsStandardCapacity made ⊎ IsHighCapacity made

-- an eMMC device with byte addresses, whose size is that of the CSD, in blocks of 512 to 2048 bytes
pub record IsByteAddressed (made : Made) : Type 0 where
  pub mode : access_mode made.ocr ≡ 0
  pub read_length : has_block_length (read_bl_len (csd_number_of made)) ≡ true

-- an eMMC device with sector addresses, whose size is SEC_COUNT
pub record IsSectorAddressed (made : Made) : Type 0 where
  pub mode : access_mode made.ocr ≡ 2
  pub counted : sec_count made.ext_csd ≡ 0 → ⊥

-- revision 5 or later, sectors of 512 bytes, and no write protection by USER_WP or BOOT_WP
pub record MmcInProfile (made : Made) : Type 0 where
  pub revision : 5 ≤ ext_csd_rev made.ext_csd
  pub sector_size : data_sector_size made.ext_csd ≡ 0
  pub unprotected : has_protection made.ext_csd ≡ false
  pub erase_group : hc_erase_grp_size made.ext_csd ≡ 0 → ⊥
  pub addresses : IsByteAddressed made ⊎ IsSectorAddressed made

pub record InProfile (made : Made) : Type 0 where
  pub window : window_at_3_3_volts made.ocr ≡ 3
  pub unlocked : made.is_locked ≡ false
  pub sd : made.kind ≡ Sd → SdInProfile made
  pub mmc : made.kind ≡ Mmc → MmcInProfile made
