-- Headline (docs/AUDIT.md, "What to read").
-- What never changes of a card: its kind and registers, and what they say of it.
use Rattle.std.specs.Prelude.{◌%◌, ◌&&◌, ◌/◌, ◌<◌, ◌==◌, ◌^◌, ◌≡◌, Bool, Err, List, Ok, Result, false, if◌then◌else◌}
use Rattle.std.specs.Prelude.{length, not, replicate, true, ℕ}
use Rattle.mmc_frame.specs.Flips.{AreBytes}
use Rattle.mmc_frame.specs.RegisterFrame.{has_end_bit, is_sound_register}
use Rattle.mmc_frame.specs.declared.addressing.Addressing.{Addressing}
use Rattle.mmc_frame.specs.declared.addressing.Addressing.TheVariants as By
use Rattle.mmc_frame.specs.declared.kind.Kind.{Kind}
use Rattle.mmc_frame.specs.declared.kind.Kind.TheVariants.{Mmc, Sd}
use Rattle.mmc_regs.specs.Csd.{csd_of, erase_unit_of, is_protected, may_switch, protected_csd, sectors_of}
use Rattle.mmc_regs.specs.CsdFields.{read_bl_len}
use Rattle.mmc_regs.specs.Ocr.{access_mode, card_capacity_status}
use Rattle.mmc_regs.specs.Register.{register_number}
use Rattle.mmc_regs.specs.Scr.{scr_number, sd_spec, set_block_count}
use Rattle.mmc_regs.specs.SwitchStatus.{access_mode_selected, high_speed_support}
use Rattle.mmc_regs.specs.declared.csd.Csd.{Csd}
use Rattle.mmc_regs.specs.declared.fault.RegFault.{RegFault}
use Rattle.mmc_ext_csd.specs.ExtCsd.{boot_sectors, gp_sectors, sec_count}
use Rattle.mmc_ext_csd.specs.Partition.{existing_sectors}
use Rattle.mmc_card.specs.declared.part.Part.{Part}
use Rattle.mmc_card.specs.declared.part.Part.TheVariants.{Boot1, Boot2, Gp1, Gp2, Gp3, Gp4, User}
use Rattle.mmc_regs.specs.Scr.{erased_byte as erased_byte_of_scr}
use Rattle.mmc_ext_csd.specs.ExtCsd.{erase_unit as erase_unit_in, erased_byte as erased_byte_in}

pub record Made : Type 0 where
  pub kind : Kind
  -- without bit 31, which says that the card is ready
  pub ocr : ℕ
  -- sixteen bytes each, the highest first
  pub cid : List ℕ
  pub csd : List ℕ
  -- eight bytes, of an SD card
  pub scr : List ℕ
  -- 64 bytes, of an SD card: what it sends after CMD6, but where it refuses to switch
  pub switch_status : List ℕ
  -- 512 bytes, of an eMMC device; where a field can be switched, the card's own field counts in place of its byte
  pub ext_csd : List ℕ
  -- SD: the RCA that it publishes is 0, which names no card
  pub is_nameless : Bool
  pub is_locked : Bool
  -- SD: knows CMD8
  pub answers_cmd8 : Bool

-- SD: its switch status names high speed (SD Physical Layer 6.00, section 4.3.10.4)
abbrev pub has_high_speed : Made → Bool
has_high_speed made = high_speed_support made.switch_status == 1

-- The registers are bytes, and have their lengths and, of CID and CSD, their checks (SD Physical Layer 6.00, sections
-- 5.2 and 5.3); the OCR has no bit 31; the switch status selects high speed where the card has it, and otherwise 15,
-- none (section 4.3.10.4).
pub record HasRegisters (made : Made) : Type 0 where
  pub ocr : made.ocr < 2 ^ 31
  pub cid : length made.cid ≡ 16
  pub csd : length made.csd ≡ 16
  pub cid_check : is_sound_register made.cid ≡ true
  pub cid_end : has_end_bit made.cid ≡ true
  pub csd_check : is_sound_register made.csd ≡ true
  pub csd_end : has_end_bit made.csd ≡ true
  pub scr : made.kind ≡ Sd → length made.scr ≡ 8
  pub switch_status : made.kind ≡ Sd → length made.switch_status ≡ 64
  pub selected : made.kind ≡ Sd → access_mode_selected made.switch_status ≡ (if has_high_speed made then 1 else 15)
  pub ext_csd : made.kind ≡ Mmc → length made.ext_csd ≡ 512
  pub cid_bytes : AreBytes made.cid
  pub csd_bytes : AreBytes made.csd
  pub scr_bytes : AreBytes made.scr
  pub switch_status_bytes : AreBytes made.switch_status
  pub ext_csd_bytes : AreBytes made.ext_csd

abbrev pub is_sd : Kind → Bool
is_sd Sd = true
is_sd Mmc = false

abbrev pub is_mmc : Kind → Bool
is_mmc Sd = false
is_mmc Mmc = true

-- SD: CCS (SD Physical Layer 6.00, section 5.1); eMMC: the access mode (JESD84-B51, section 7.1)
abbrev pub has_sector_addresses : Made → Bool
has_sector_addresses made =
    if is_sd made.kind then card_capacity_status made.ocr == 1 else access_mode made.ocr == 2

abbrev pub addressing_of : Made → Addressing
addressing_of made = if has_sector_addresses made then By.Sectors else By.Bytes

-- the sector that an argument names
abbrev pub sector_at : Made → ℕ → ℕ
sector_at made address = if has_sector_addresses made then address else address / 512

-- a byte address that is no multiple of 512 names no block
abbrev pub is_misaligned : Made → ℕ → Bool
is_misaligned made address = not (has_sector_addresses made) && not (address % 512 == 0)

abbrev pub csd_number_of : Made → ℕ
csd_number_of made = register_number made.csd

-- The CSD that a card tells: its own, or one in which TMP_WRITE_PROTECT has come on by itself (SD Physical Layer 6.00, sections
-- 5.3.2 and 5.3.3; JESD84-B51, section 7.3).
abbrev pub csd_told : Bool → Made → List ℕ
csd_told says made = if says then protected_csd made.csd else made.csd

abbrev pub IsToldCsd : Made → List ℕ → Type 0
IsToldCsd made csd = (says : Bool) × (csd ≡ csd_told says made)

-- the card, as it tells of itself
abbrev pub as_told : Bool → Made → Made
as_told says made = record made { csd = csd_told says made }

-- what a CSD says, and 0 where it is refused
abbrev pub or_none : (Csd → ℕ) → Result Csd RegFault → ℕ
or_none says (Ok csd) = says csd
or_none says (Err fault) = 0

-- PERM_WRITE_PROTECT or TMP_WRITE_PROTECT
abbrev pub is_read_only : Made → Bool
is_read_only made = is_protected (csd_number_of made)

-- The block length that the registers name: 2^READ_BL_LEN with byte addresses (SD Physical Layer 6.00, section 5.3.2;
-- JESD84-B51, section 7.3), otherwise 512.
abbrev pub named_block_length : Made → ℕ
named_block_length made = if has_sector_addresses made then 512 else 2 ^ read_bl_len (csd_number_of made)

-- The block length after power on: 512 on an SD card (SD Physical Layer 6.00, table 4-25, CMD16), otherwise the named one.
abbrev pub first_block_length : Made → ℕ
first_block_length made = if is_sd made.kind then 512 else named_block_length made

-- The RCA while none was published or assigned:
-- 0 for SD (SD Physical Layer 6.00, section 5.4), 1 for eMMC (JESD84-B51, section 7.5).
abbrev pub first_rca : Kind → ℕ
first_rca Sd = 0
first_rca Mmc = 1

-- CMD23: SD cards say it in the SCR (SD Physical Layer 6.00, section 5.6), eMMC devices always have it.
abbrev pub has_cmd23 : Made → Bool
has_cmd23 made = if is_sd made.kind then set_block_count (scr_number made.scr) == 1 else true

-- CMD6 of SD: CCC may name class 10, and SD_SPEC isn't 0 (SD Physical Layer 6.00, sections 4.3.10, 4.7.3 and 5.6).
abbrev pub has_switch_function : Made → Bool
has_switch_function made = may_switch (csd_number_of made) && not (sd_spec (scr_number made.scr) == 0)

-- the erase unit in sectors; of eMMC that of byte 224, whatever ERASE_GROUP_DEF says (the project's own)
abbrev pub erase_unit_of_card : Made → ℕ
erase_unit_of_card made =
    if is_sd made.kind
    then or_none erase_unit_of (csd_of made.kind (csd_number_of made))
    else erase_unit_in made.ext_csd

abbrev pub erased_byte_of_card : Made → ℕ
erased_byte_of_card made =
    if is_sd made.kind then erased_byte_of_scr (scr_number made.scr) else erased_byte_in made.ext_csd

abbrev pub erased_sector : Made → List ℕ
erased_sector made = replicate 512 (erased_byte_of_card made)

-- The partitions' sizes in sectors, by the registers.
abbrev pub user_sectors : Made → ℕ
user_sectors made =
    if is_mmc made.kind && has_sector_addresses made then sec_count made.ext_csd
    else or_none sectors_of (csd_of made.kind (csd_number_of made))

abbrev pub mmc_sectors : Made → Part → ℕ
mmc_sectors made User = user_sectors made
mmc_sectors made Boot1 = boot_sectors made.ext_csd
mmc_sectors made Boot2 = boot_sectors made.ext_csd
mmc_sectors made Gp1 = existing_sectors (gp_sectors 1 made.ext_csd) (addressing_of made)
mmc_sectors made Gp2 = existing_sectors (gp_sectors 2 made.ext_csd) (addressing_of made)
mmc_sectors made Gp3 = existing_sectors (gp_sectors 3 made.ext_csd) (addressing_of made)
mmc_sectors made Gp4 = existing_sectors (gp_sectors 4 made.ext_csd) (addressing_of made)

-- an SD card has the user partition alone
abbrev pub sd_sectors : Made → Part → ℕ
sd_sectors made User = user_sectors made
sd_sectors made _ = 0

abbrev pub sectors_in : Made → Part → ℕ
sectors_in made part = if is_sd made.kind then sd_sectors made part else mmc_sectors made part
