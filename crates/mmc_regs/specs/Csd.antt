-- Headline (docs/AUDIT.md, "What to read").
-- The CSD of an SD card or an eMMC device, and what it says of the card (SD Physical Layer 6.00, sections 5.3.2 and
-- 5.3.3; JESD84-B51, section 7.3).
use Rattle.std.specs.Prelude.{ℕ, ◌+◌, ◌-◌, ◌*◌, ◌/◌, ◌^◌, ◌==◌, ◌&&◌, ◌||◌, nat_le, Bool, List, if◌then◌else◌, Result}
use Rattle.std.specs.Prelude.{Ok, Err}
use Rattle.mmc_frame.specs.declared.kind.Kind.{Kind}
use Rattle.mmc_frame.specs.declared.kind.Kind.TheVariants.{Sd, Mmc as MmcDevice}
use Rattle.mmc_regs.specs.CsdFields.{csd_structure, read_bl_len, c_size, c_size_mult, perm_write_protect}
use Rattle.mmc_regs.specs.CsdFields.{ccc, class_10, tmp_write_protect, erase_blk_en, sector_size, write_bl_len, c_size_v2}
use Rattle.mmc_regs.specs.CsdFields.{lasting_number, with_protection}
use Rattle.mmc_regs.specs.Register.{checked_number, checked_register, register_number}
use Rattle.mmc_regs.specs.declared.fault.RegFault.{RegFault}
use Rattle.mmc_regs.specs.declared.fault.RegFault.TheVariants.{Structure, Range}
use Rattle.mmc_regs.specs.declared.csd.Csd.{Csd}
use Rattle.mmc_regs.specs.declared.csd.Csd.TheVariants.{V1, V2, Mmc}

-- the number of a CSD of any kind
abbrev pub csd_number : Csd → ℕ
csd_number (V1 csd) = csd
csd_number (V2 csd) = csd
csd_number (Mmc csd) = csd

-- blocks of 512, 1024 or 2048 bytes
abbrev pub has_block_length : ℕ → Bool
has_block_length exponent = nat_le 9 exponent && nat_le exponent 11

-- a CSD version 1.0, whose block lengths are judged
abbrev pub v1_of : ℕ → Result Csd RegFault
v1_of csd = if has_block_length (read_bl_len csd) && has_block_length (write_bl_len csd) then Ok (V1 csd) else Err Range

-- the CSD of an SD card by its structure: 0 is version 1.0, 1 is version 2.0
abbrev pub sd_csd_of : ℕ → Result Csd RegFault
sd_csd_of csd =
    if csd_structure csd == 0 then v1_of csd
    else (if csd_structure csd == 1 then Ok (V2 csd) else Err Structure)

-- of an eMMC device neither the structure nor a length is judged
abbrev pub csd_of : Kind → ℕ → Result Csd RegFault
csd_of Sd csd = sd_csd_of csd
csd_of MmcDevice csd = Ok (Mmc csd)

abbrev pub csd_from : Kind → Result ℕ RegFault → Result Csd RegFault
csd_from kind (Ok csd) = csd_of kind csd
csd_from kind (Err fault) = Err fault

-- the check is judged first
abbrev pub csd_in : Kind → List ℕ → Result Csd RegFault
csd_in kind register = csd_from kind (checked_number register)

-- The card may know CMD6, of class 10: CCC names that class, or none at all, and says nothing then (the project's own).
abbrev pub may_switch : ℕ → Bool
may_switch csd = (ccc csd == 0) || (class_10 csd == 1)

-- the user area in bytes: C_SIZE + 1 times 2^(C_SIZE_MULT + 2) blocks of 2^READ_BL_LEN bytes
abbrev pub bytes_by_blocks : ℕ → ℕ
bytes_by_blocks csd = (c_size csd + 1) * 2 ^ (c_size_mult csd + 2) * 2 ^ read_bl_len csd

-- the user area in sectors of 512 bytes, rounded down; version 2.0 counts units of 512 KiB
abbrev pub sectors_of : Csd → ℕ
sectors_of (V1 csd) = bytes_by_blocks csd / 512
sectors_of (V2 csd) = (c_size_v2 csd + 1) * 1024
sectors_of (Mmc csd) = bytes_by_blocks csd / 512

-- the erase unit of version 1.0 in sectors: SECTOR_SIZE + 1 write blocks, or one sector where ERASE_BLK_EN allows it
abbrev pub erase_unit_v1 : ℕ → ℕ
erase_unit_v1 csd = if erase_blk_en csd == 1 then 1 else (sector_size csd + 1) * 2 ^ (write_bl_len csd - 9)

-- the erase unit of an SD card in sectors; that of an eMMC device stands in its EXT_CSD, and 0 says that there is none
-- here
abbrev pub erase_unit_of : Csd → ℕ
erase_unit_of (V1 csd) = erase_unit_v1 csd
erase_unit_of (V2 csd) = 1
erase_unit_of (Mmc csd) = 0

-- the CSD of an SD card
abbrev pub IsSdCsd : Csd → Type 0
IsSdCsd (V1 csd) = Unit {0}
IsSdCsd (V2 csd) = Unit {0}
IsSdCsd (Mmc csd) = ⊥

-- a card of this kind has such a CSD
abbrev pub IsOfKind : Kind → Csd → Type 0
IsOfKind Sd csd = IsSdCsd csd
IsOfKind MmcDevice csd = ¬ IsSdCsd csd

-- write protected for good, or for now
abbrev pub is_protected : ℕ → Bool
is_protected csd = (perm_write_protect csd == 1) || (tmp_write_protect csd == 1)

-- The CSD of a card that has become write protected for now, with the check that goes with it.
abbrev pub protected_csd : List ℕ → List ℕ
protected_csd register = checked_register (with_protection (register_number register))

-- what never changes of a CSD
abbrev pub lasting_csd : Csd → Csd
lasting_csd (V1 csd) = V1 (lasting_number csd)
lasting_csd (V2 csd) = V2 (lasting_number csd)
lasting_csd (Mmc csd) = Mmc (lasting_number csd)
