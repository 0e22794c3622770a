use Rattle.std.proofs.Common.{◌++◌, ◌<◌, ◌^◌, ◌∷◌, [], ◌≡◌, ◌⊎◌, arith, inl, inr, refl, ℕ}
use Rattle.std.specs.Prelude.{replicate, true}
use Rattle.mmc_frame.specs.Check.{power, remainder, times_x}
use Rattle.mmc_frame.specs.RegisterFrame.{is_sound_register}
use Rattle.mmc_frame.specs.declared.addressing.Addressing.TheVariants as By
use Rattle.mmc_frame.specs.declared.kind.Kind.TheVariants.{Mmc, Sd}
use Rattle.mmc_regs.specs.Ocr.{window_at_3_3_volts}
use Rattle.mmc_card.specs.Made.{HasRegisters, Made}
use Rattle.mmc_card.specs.Profile.{InProfile, IsByteAddressed, IsSectorAddressed}
use Rattle.mmc_card.proofs.ByteLemmas.{bytes_by}
use Rattle.mmc_card.proofs.ProfileLemmas.{standard_made, standard_profile, standard_registers}
use Rattle.mmc_card.proofs.laws.some_card_is_in_profile.Goals as goal

-- CSD version 2.0 and CCS 1
abbrev high_made : Made
high_made =
    record standard_made {
      ocr = 0x40ff8000;
      csd = 0x40 ∷ replicate 14 0 ++ 0x45 ∷ [];
      answers_cmd8 = true;
    }

high_registers : HasRegisters high_made
unfolding is_sound_register remainder power times_x
high_registers = record {
  ocr = omega arith;
  cid = refl;
  csd = refl;
  cid_check = standard_registers.cid_check;
  cid_end = refl;
  csd_check = refl;
  csd_end = refl;
  scr = λ h. refl;
  switch_status = λ h. refl;
  selected = λ h. refl;
  ext_csd = λ h. absurd cc;
  cid_bytes = standard_registers.cid_bytes;
  csd_bytes = bytes_by high_made.csd refl;
  scr_bytes = standard_registers.scr_bytes;
  switch_status_bytes = standard_registers.switch_status_bytes;
  ext_csd_bytes = standard_registers.ext_csd_bytes;
}

high_profile : InProfile high_made
high_profile = record {
  window = refl;
  unlocked = refl;
  sd = λ h. record {
    named = refl;
    capacity = inr (record { version = refl; ccs = refl; told = refl });
  };
  mmc = λ h. absurd cc;
}

-- revision 5, erase groups of 512 KiB, one sector
abbrev device_made : ℕ → Made
device_made ocr =
    record standard_made {
      kind = Mmc;
      ocr = ocr;
      ext_csd = replicate 192 0 ++ 5 ∷ replicate 19 0 ++ 1 ∷ replicate 11 0 ++ 1 ∷ replicate 287 0;
    }

device_registers : (ocr : ℕ) → ocr < 2 ^ 31 → HasRegisters (device_made ocr)
device_registers ocr below = record {
  ocr = below;
  cid = refl;
  csd = refl;
  cid_check = standard_registers.cid_check;
  cid_end = refl;
  csd_check = standard_registers.csd_check;
  csd_end = refl;
  scr = λ h. absurd cc;
  switch_status = λ h. absurd cc;
  selected = λ h. absurd cc;
  ext_csd = λ h. refl;
  cid_bytes = standard_registers.cid_bytes;
  csd_bytes = standard_registers.csd_bytes;
  scr_bytes = standard_registers.scr_bytes;
  switch_status_bytes = standard_registers.switch_status_bytes;
  ext_csd_bytes = bytes_by (device_made ocr).ext_csd refl;
}

device_profile : (ocr : ℕ) → window_at_3_3_volts ocr ≡ 3
    → IsByteAddressed (device_made ocr) ⊎ IsSectorAddressed (device_made ocr) → InProfile (device_made ocr)
device_profile ocr window addresses = record {
  window = window;
  unlocked = refl;
  sd = λ h. absurd cc;
  mmc = λ h. record {
    revision = omega arith;
    sector_size = refl;
    unprotected = refl;
    erase_group = λ none. absurd cc;
    addresses = addresses;
  };
}

byte_profile : InProfile (device_made 0x00ff8000)
byte_profile = device_profile 0x00ff8000 refl (inl (record { mode = refl; read_length = refl }))

sector_profile : InProfile (device_made 0x40ff8000)
sector_profile = device_profile 0x40ff8000 refl (inr (record { mode = refl; counted = λ none. absurd cc }))

pub returns : goal.returns
returns c Sd By.Bytes = (standard_made, refl, refl, standard_registers, standard_profile)
returns c Sd By.Sectors = (high_made, refl, refl, high_registers, high_profile)
returns c Mmc By.Bytes = (device_made 0x00ff8000, refl, refl, device_registers _ (omega arith), byte_profile)
returns c Mmc By.Sectors = (device_made 0x40ff8000, refl, refl, device_registers _ (omega arith), sector_profile)
