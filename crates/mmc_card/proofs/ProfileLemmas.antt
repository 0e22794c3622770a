-- An SD card of standard capacity that is in profile.
use Rattle.std.proofs.Common.{◌∷◌, [], arith, inl, refl}
use Rattle.std.specs.Prelude.{false, replicate, slice_set}
use Rattle.mmc_frame.specs.Check.{power, remainder, times_x}
use Rattle.mmc_frame.specs.RegisterFrame.{is_sound_register}
use Rattle.mmc_frame.specs.declared.kind.Kind.TheVariants.{Sd}
use Rattle.mmc_card.specs.Made.{HasRegisters, Made}
use Rattle.mmc_card.specs.Profile.{InProfile}
use Rattle.mmc_card.proofs.ByteLemmas.{bytes_by}

-- for one line or four, without CMD6, CMD8 and CMD23
abbrev pub standard_made : Made
standard_made =
    record {
      kind = Sd;
      ocr = 0x00ff8000;
      cid = 0 ∷ 0 ∷ 0 ∷ 0 ∷ 0 ∷ 0 ∷ 0 ∷ 0 ∷ 0 ∷ 0 ∷ 0 ∷ 0 ∷ 0 ∷ 0 ∷ 0 ∷ 1 ∷ [];
      csd = 0 ∷ 0 ∷ 0 ∷ 0 ∷ 0 ∷ 9 ∷ 0 ∷ 0 ∷ 0 ∷ 0 ∷ 0x40 ∷ 0 ∷ 2 ∷ 0x40 ∷ 0 ∷ 0x9b ∷ [];
      scr = 0 ∷ 5 ∷ 0 ∷ 0 ∷ 0 ∷ 0 ∷ 0 ∷ 0 ∷ [];
      switch_status = slice_set (slice_set (replicate 64 0) 13 1) 16 15;
      ext_csd = [];
      is_nameless = false;
      is_locked = false;
      answers_cmd8 = false;
    }

pub standard_registers : HasRegisters standard_made
unfolding is_sound_register remainder power times_x
standard_registers = record {
  ocr = omega arith;
  cid = refl;
  csd = refl;
  cid_check = refl;
  cid_end = refl;
  csd_check = refl;
  csd_end = refl;
  scr = λ h. refl;
  switch_status = λ h. refl;
  selected = λ h. refl;
  ext_csd = λ h. absurd cc;
  cid_bytes = bytes_by standard_made.cid refl;
  csd_bytes = bytes_by standard_made.csd refl;
  scr_bytes = bytes_by standard_made.scr refl;
  switch_status_bytes = bytes_by standard_made.switch_status refl;
  ext_csd_bytes = tt;
}

pub standard_profile : InProfile standard_made
standard_profile = record {
  window = refl;
  unlocked = refl;
  sd = λ h. record {
    named = refl;
    capacity = inl (record { version = refl; read_length = refl; write_length = refl; ccs = refl });
  };
  mmc = λ h. absurd cc;
}
