-- Headline (docs/AUDIT.md, "What to read").
-- The sizes of a card's partitions.
use Rattle.std.specs.Prelude.{◌==◌, List, None, Option, Some, if◌then◌else◌, ℕ}
use Rattle.mmc_frame.specs.declared.addressing.Addressing.{Addressing}
use Rattle.mmc_frame.specs.declared.addressing.Addressing.TheVariants.{Bytes, Sectors}
use Rattle.mmc_regs.specs.Csd.{sectors_of}
use Rattle.mmc_regs.specs.declared.csd.Csd.{Csd}
use Rattle.mmc_ext_csd.specs.ExtCsd.{boot_sectors, gp_sectors, sec_count}
use Rattle.mmc_ext_csd.specs.Partition.{existing_sectors}
use Rattle.mmc_card.specs.declared.part.Part.{Part}
use Rattle.mmc_card.specs.declared.part.Part.TheVariants.{Boot1, Boot2, Gp1, Gp2, Gp3, Gp4, User}
use Rattle.mmc_switch.specs.declared.sizes.Sizes.{Sizes}

-- of a partition, 0 where there is none
abbrev pub size_of : Sizes → Part → ℕ
size_of sizes User = sizes.user
size_of sizes Boot1 = sizes.boot
size_of sizes Boot2 = sizes.boot
size_of sizes Gp1 = sizes.gp1
size_of sizes Gp2 = sizes.gp2
size_of sizes Gp3 = sizes.gp3
size_of sizes Gp4 = sizes.gp4

-- a partition without a sector is none
abbrev pub some_size : ℕ → Option ℕ
some_size size = if size == 0 then None else Some size

-- of the user area of an eMMC device: the CSD tells it of one with byte addresses, otherwise SEC_COUNT
abbrev pub user_size : Addressing → Csd → List ℕ → ℕ
user_size Bytes csd ext_csd = sectors_of csd
user_size Sectors csd ext_csd = sec_count ext_csd

-- As far as commands can address them: of an SD card, which has the user partition alone, and of an eMMC device.
abbrev pub sd_sizes : Addressing → Csd → Sizes
sd_sizes addressing csd =
    record {
      user = existing_sectors (sectors_of csd) addressing;
      boot = 0;
      gp1 = 0;
      gp2 = 0;
      gp3 = 0;
      gp4 = 0;
    }

abbrev pub mmc_sizes : Addressing → Csd → List ℕ → Sizes
mmc_sizes addressing csd ext_csd =
    record {
      user = existing_sectors (user_size addressing csd ext_csd) addressing;
      boot = existing_sectors (boot_sectors ext_csd) addressing;
      gp1 = existing_sectors (gp_sectors 1 ext_csd) addressing;
      gp2 = existing_sectors (gp_sectors 2 ext_csd) addressing;
      gp3 = existing_sectors (gp_sectors 3 ext_csd) addressing;
      gp4 = existing_sectors (gp_sectors 4 ext_csd) addressing;
    }
