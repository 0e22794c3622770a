-- A card as it tells of itself, in which TMP_WRITE_PROTECT may have come on, is the same else.
use Rattle.std.proofs.Common.{◌+◌, ◌<◌, ◌==◌, ◌&&◌, ◌∙◌, ◌≡◌, ◌⊎◌, Bool, List, ap, arith, false, inl, inr, length, not, refl, subst, sym, true, ℕ}
use Rattle.std.specs.Prelude.{Err, Ok, Result, if◌then◌else◌}
use Rattle.mmc_frame.specs.Flips.{AreBytes}
use Rattle.mmc_frame.specs.RegisterFrame.{has_end_bit, is_sound_register}
use Rattle.mmc_frame.specs.declared.kind.Kind.{Kind}
use Rattle.mmc_frame.specs.declared.kind.Kind.TheVariants.{Mmc, Sd}
use Rattle.mmc_regs.proofs.CheckedLemmas.{checked_bytes, checked_end, checked_length, checked_sound}
use Rattle.mmc_regs.proofs.CsdLemmas.{Above, AreReadAlike, alike_sectors, alike_unit, protection_comes_on, read_alike}
use Rattle.mmc_regs.proofs.CsdLemmas.{same_read_length, same_structure, same_switch, same_write_length}
use Rattle.mmc_regs.specs.Csd.{csd_of, erase_unit_of, has_block_length, is_protected, sectors_of}
use Rattle.mmc_regs.specs.CsdFields.{with_protection}
use Rattle.mmc_regs.specs.Register.{register_number}
use Rattle.mmc_regs.specs.Scr.{scr_number, sd_spec}
use Rattle.mmc_regs.specs.declared.csd.Csd.{Csd}
use Rattle.mmc_regs.specs.declared.fault.RegFault.{RegFault}
use Rattle.mmc_ext_csd.specs.ExtCsd.{erase_unit as erase_unit_in, sec_count}
use Rattle.mmc_card.specs.Made.{HasRegisters, Made, as_told, csd_number_of, csd_told, erase_unit_of_card, has_sector_addresses}
use Rattle.mmc_card.specs.Made.{has_switch_function, is_mmc, is_read_only, is_sd, or_none, sectors_in, user_sectors}
use Rattle.mmc_card.specs.Profile.{InProfile, IsByteAddressed, IsHighCapacity, IsStandardCapacity}
use Rattle.mmc_card.specs.declared.part.Part.{Part}
use Rattle.mmc_card.specs.declared.part.Part.TheVariants.{Boot1, Boot2, Gp1, Gp2, Gp3, Gp4, User}

-- its CSD is the same above that bit
pub told_above : (says : Bool) (made : Made) → HasRegisters made → Above (csd_number_of (as_told says made)) (csd_number_of made)
told_above true made registers = (protection_comes_on made.csd registers.csd_bytes).0
told_above false made registers = refl

-- a card that tells of no protection has none
pub told_unprotected : (says : Bool) (made : Made) → HasRegisters made → is_read_only (as_told says made) ≡ false
    → is_read_only made ≡ false
told_unprotected true made registers none = cc ((protection_comes_on made.csd registers.csd_bytes).1, none)
told_unprotected false made registers none = none

told_length : (says : Bool) (made : Made) → HasRegisters made → length (csd_told says made) ≡ 16
told_length true made registers = checked_length (with_protection (register_number made.csd))
told_length false made registers = registers.csd

told_sound : (says : Bool) (made : Made) → HasRegisters made → is_sound_register (csd_told says made) ≡ true
told_sound true made registers = checked_sound (with_protection (register_number made.csd))
told_sound false made registers = registers.csd_check

told_end : (says : Bool) (made : Made) → HasRegisters made → has_end_bit (csd_told says made) ≡ true
told_end true made registers = checked_end (with_protection (register_number made.csd))
told_end false made registers = registers.csd_end

told_bytes : (says : Bool) (made : Made) → HasRegisters made → AreBytes (csd_told says made)
told_bytes true made registers = checked_bytes (with_protection (register_number made.csd))
told_bytes false made registers = registers.csd_bytes

-- what it tells are registers
pub told_registers : (says : Bool) (made : Made) → HasRegisters made → HasRegisters (as_told says made)
told_registers says made registers = record {
  ocr = registers.ocr;
  cid = registers.cid;
  csd = told_length says made registers;
  cid_check = registers.cid_check;
  cid_end = registers.cid_end;
  csd_check = told_sound says made registers;
  csd_end = told_end says made registers;
  scr = registers.scr;
  switch_status = registers.switch_status;
  selected = registers.selected;
  ext_csd = registers.ext_csd;
  cid_bytes = registers.cid_bytes;
  csd_bytes = told_bytes says made registers;
  scr_bytes = registers.scr_bytes;
  switch_status_bytes = registers.switch_status_bytes;
  ext_csd_bytes = registers.ext_csd_bytes;
}

-- What they say.

or_none_alike : (says : Csd → ℕ) (one other : Result Csd RegFault)
    → ((one other : Csd) → AreReadAlike (Ok one) (Ok other) → says one ≡ says other) → AreReadAlike one other
    → or_none says one ≡ or_none says other
or_none_alike says (Ok one) (Ok other) same alike = same one other alike
or_none_alike says (Ok one) (Err other) same alike = absurd alike
or_none_alike says (Err one) (Ok other) same alike = absurd alike
or_none_alike says (Err one) (Err other) same alike = refl

told_size : (says : Bool) (made : Made) → HasRegisters made → user_sectors (as_told says made) ≡ user_sectors made
told_size says made registers =
    ap (λ n. if is_mmc made.kind && has_sector_addresses made then sec_count made.ext_csd else n)
    (or_none_alike sectors_of (csd_of made.kind (csd_number_of (as_told says made))) (csd_of made.kind (csd_number_of made)) alike_sectors
    (read_alike made.kind (csd_number_of (as_told says made)) (csd_number_of made) (told_above says made registers)))

sectors_by : (is_sd : Bool) (one other : ℕ) → one ≡ other → (if is_sd then one else one) ≡ (if is_sd then other else other)
sectors_by true one other same = same
sectors_by false one other same = same

pub told_sectors : (says : Bool) (made : Made) (part : Part) → HasRegisters made → sectors_in (as_told says made) part ≡ sectors_in made part
told_sectors says made User registers = sectors_by (is_sd made.kind) (user_sectors (as_told says made)) (user_sectors made)
    (told_size says made registers)
told_sectors says made Boot1 registers = refl
told_sectors says made Boot2 registers = refl
told_sectors says made Gp1 registers = refl
told_sectors says made Gp2 registers = refl
told_sectors says made Gp3 registers = refl
told_sectors says made Gp4 registers = refl

pub told_unit : (says : Bool) (made : Made) → HasRegisters made → erase_unit_of_card (as_told says made) ≡ erase_unit_of_card made
told_unit says made registers =
    ap (λ n. if is_sd made.kind then n else erase_unit_in made.ext_csd)
    (or_none_alike erase_unit_of (csd_of made.kind (csd_number_of (as_told says made))) (csd_of made.kind (csd_number_of made)) alike_unit
    (read_alike made.kind (csd_number_of (as_told says made)) (csd_number_of made) (told_above says made registers)))

pub told_switch : (says : Bool) (made : Made) → HasRegisters made → has_switch_function (as_told says made) ≡ has_switch_function made
told_switch says made registers =
    ap (λ b. b && not (sd_spec (scr_number made.scr) == 0))
    (same_switch (csd_number_of (as_told says made)) (csd_number_of made) (told_above says made registers))

-- Profile.

standard_told : (says : Bool) (made : Made) → HasRegisters made → IsStandardCapacity made → IsStandardCapacity (as_told says made)
standard_told says made registers low =
    let above = told_above says made registers in
    record {
      version = same_structure _ _ above ∙ low.version;
      read_length = ap has_block_length (same_read_length _ _ above) ∙ low.read_length;
      write_length = ap has_block_length (same_write_length _ _ above) ∙ low.write_length;
      ccs = low.ccs;
    }

high_told : (says : Bool) (made : Made) → HasRegisters made → IsHighCapacity made → IsHighCapacity (as_told says made)
high_told says made registers tall = record {
  version = same_structure _ _ (told_above says made registers) ∙ tall.version;
  ccs = tall.ccs;
  told = tall.told;
}

bytes_told : (says : Bool) (made : Made) → HasRegisters made → IsByteAddressed made → IsByteAddressed (as_told says made)
bytes_told says made registers bytes = record {
  mode = bytes.mode;
  read_length = ap has_block_length (same_read_length _ _ (told_above says made registers)) ∙ bytes.read_length;
}

-- a card in profile is in profile as it tells
pub told_profile : (says : Bool) (made : Made) → HasRegisters made → InProfile made → InProfile (as_told says made)
told_profile says made registers profile = record {
  window = profile.window;
  unlocked = profile.unlocked;
  sd = λ is. (let sd = profile.sd is in
      record {
        named = sd.named;
        capacity = elim sd.capacity [
          | inl low ↦ inl (standard_told says made registers low)
          | inr tall ↦ inr (high_told says made registers tall)
        ];
      });
  mmc = λ is. (let mmc = profile.mmc is in
      record {
        revision = mmc.revision;
        sector_size = mmc.sector_size;
        unprotected = mmc.unprotected;
        erase_group = mmc.erase_group;
        addresses = elim mmc.addresses [
          | inl bytes ↦ inl (bytes_told says made registers bytes)
          | inr sectors ↦ inr (record { mode = sectors.mode; counted = sectors.counted })
        ];
      });
}
