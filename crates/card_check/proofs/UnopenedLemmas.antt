-- A card that isn't opened is out of profile, and one that is opened in it.
use Rattle.std.proofs.Common.{◌≡◌, ◌⊎◌, ◌∙◌, ◌<◌, ◌≤◌, ap, arith, false, inl, inr, sym, true, ℕ}
use Rattle.std.proofs.lemmas.Bool.{false≢true}
use Rattle.mmc_frame.specs.declared.kind.Kind.{Kind}
use Rattle.mmc_frame.specs.declared.kind.Kind.TheVariants.{Mmc, Sd}
use Rattle.mmc_regs.specs.Csd.{has_block_length}
use Rattle.mmc_regs.specs.CsdFields.{csd_structure, read_bl_len, write_bl_len}
use Rattle.mmc_regs.specs.Ocr.{access_mode, card_capacity_status, window_at_3_3_volts}
use Rattle.mmc_ext_csd.specs.ExtCsd.{ext_csd_rev, hc_erase_grp_size, sec_count}
use Rattle.mmc_card.specs.Made.{Made, csd_number_of}
use Rattle.mmc_card.specs.Profile.{InProfile, IsByteAddressed, IsHighCapacity, IsSectorAddressed, IsStandardCapacity, MmcInProfile}
use Rattle.card_check.specs.declared.unopened.Unopened.{Unopened}
use Rattle.card_check.specs.declared.unopened.Unopened.TheVariants.{AccessMode, BytesByOcr, Locked, NeverReady, NoEraseUnit}
use Rattle.card_check.specs.declared.unopened.Unopened.TheVariants.{NoSectors, ReadLength, Revision, SectorsByOcr, Structure}
use Rattle.card_check.specs.declared.unopened.Unopened.TheVariants.{Window, WriteLength}
use Rattle.card_check.specs.Unopened.{IsPlain, IsWhy}

-- Out of profile.

module _ (made : Made) where
  never_ready : IsStandardCapacity made ⊎ IsHighCapacity made → card_capacity_status made.ocr ≡ 1
      → made.answers_cmd8 ≡ false → ⊥
  never_ready (inl standard) ccs unknown = cc (sym standard.ccs ∙ ccs)
  never_ready (inr high) ccs unknown = false≢true (sym unknown ∙ high.told)

  unstructured : IsStandardCapacity made ⊎ IsHighCapacity made → 1 < csd_structure (csd_number_of made) → ⊥
  unstructured (inl standard) above = let version = standard.version in omega (arith, above, version)
  unstructured (inr high) above = let version = high.version in omega (arith, above, version)

  unread_sd : IsStandardCapacity made ⊎ IsHighCapacity made → csd_structure (csd_number_of made) ≡ 0
      → has_block_length (read_bl_len (csd_number_of made)) ≡ false → ⊥
  unread_sd (inl standard) version bad = false≢true (sym bad ∙ standard.read_length)
  unread_sd (inr high) version bad = cc (sym version ∙ high.version)

  unwritten : IsStandardCapacity made ⊎ IsHighCapacity made → csd_structure (csd_number_of made) ≡ 0
      → (length : ℕ) → (IsStandardCapacity made → has_block_length length ≡ true) → has_block_length length ≡ false → ⊥
  unwritten (inl standard) version length good bad = false≢true (sym bad ∙ good standard)
  unwritten (inr high) version length good bad = cc (sym version ∙ high.version)

  sectors_by : IsStandardCapacity made ⊎ IsHighCapacity made → card_capacity_status made.ocr ≡ 1
      → csd_structure (csd_number_of made) ≡ 0 → ⊥
  sectors_by (inl standard) ccs version = cc (sym standard.ccs ∙ ccs)
  sectors_by (inr high) ccs version = cc (sym version ∙ high.version)

  bytes_by : IsStandardCapacity made ⊎ IsHighCapacity made → card_capacity_status made.ocr ≡ 0
      → csd_structure (csd_number_of made) ≡ 1 → ⊥
  bytes_by (inl standard) ccs version = cc (sym standard.version ∙ version)
  bytes_by (inr high) ccs version = cc (sym ccs ∙ high.ccs)

  unaddressed : IsByteAddressed made ⊎ IsSectorAddressed made → (access_mode made.ocr ≡ 0 → ⊥)
      → (access_mode made.ocr ≡ 2 → ⊥) → ⊥
  unaddressed (inl bytes) not_bytes not_sectors = not_bytes bytes.mode
  unaddressed (inr sectors) not_bytes not_sectors = not_sectors sectors.mode

  unread_mmc : IsByteAddressed made ⊎ IsSectorAddressed made → access_mode made.ocr ≡ 0
      → has_block_length (read_bl_len (csd_number_of made)) ≡ false → ⊥
  unread_mmc (inl bytes) mode bad = false≢true (sym bad ∙ bytes.read_length)
  unread_mmc (inr sectors) mode bad = cc (sym mode ∙ sectors.mode)

  uncounted : IsByteAddressed made ⊎ IsSectorAddressed made → access_mode made.ocr ≡ 2 → sec_count made.ext_csd ≡ 0 → ⊥
  uncounted (inl bytes) mode none = cc (sym bytes.mode ∙ mode)
  uncounted (inr sectors) mode none = sectors.counted none

  unread : ((made.kind ≡ Sd) × (csd_structure (csd_number_of made) ≡ 0)) ⊎ ((made.kind ≡ Mmc) × (access_mode made.ocr ≡ 0))
      → has_block_length (read_bl_len (csd_number_of made)) ≡ false → InProfile made → ⊥
  unread (inl sd) bad p = unread_sd (p.sd sd.0).capacity sd.1 bad
  unread (inr mmc) bad p = unread_mmc (p.mmc mmc.0).addresses mmc.1 bad

-- each reason speaks against the profile
pub out_of_profile : (made : Made) (why : Unopened) → IsWhy made why → InProfile made → ⊥
out_of_profile made (Window ocr) w p = w.1 (ap window_at_3_3_volts w.0 ∙ p.window)
out_of_profile made (NeverReady ocr) w p =
    never_ready made (p.sd w.1).capacity (sym (ap card_capacity_status w.0) ∙ w.2) w.3
out_of_profile made Locked w p = false≢true (sym p.unlocked ∙ w)
out_of_profile made (Structure number) w p =
    let is = w.0 in let above = w.2 in unstructured made (p.sd w.1).capacity (omega (arith, is, above))
out_of_profile made (ReadLength read) w p = unread made w.2 (sym (ap has_block_length w.0) ∙ w.1) p
out_of_profile made (WriteLength write) w p =
    unwritten made (p.sd w.2).capacity w.3 (write_bl_len (csd_number_of made)) (λ standard. standard.write_length) (sym (ap has_block_length w.0) ∙ w.1)
out_of_profile made (SectorsByOcr ocr) w p =
    sectors_by made (p.sd w.1).capacity (sym (ap card_capacity_status w.0) ∙ w.2) w.3
out_of_profile made (BytesByOcr ocr) w p =
    bytes_by made (p.sd w.1).capacity (sym (ap card_capacity_status w.0) ∙ w.2) w.3
out_of_profile made (AccessMode ocr) w p =
    unaddressed made (p.mmc w.1).addresses (λ h. w.2 (ap access_mode w.0 ∙ h)) (λ h. w.3 (ap access_mode w.0 ∙ h))
out_of_profile made (Revision number) w p =
    let is = w.0 in let below = w.2 in let least = (p.mmc w.1).revision in omega (arith, is, below, least)
out_of_profile made NoEraseUnit w p = (p.mmc w.0).erase_group w.1
out_of_profile made NoSectors w p = uncounted made (p.mmc w.0).addresses w.1 w.2

-- In profile.

addressed : (made : Made) → IsByteAddressed made ⊎ (access_mode made.ocr ≡ 2)
    → (access_mode made.ocr ≡ 2 → sec_count made.ext_csd ≡ 0 → ⊥) → IsByteAddressed made ⊎ IsSectorAddressed made
addressed made (inl bytes) counted = inl bytes
addressed made (inr mode) counted = inr (record { mode = mode; counted = counted mode })

pub mmc_in_profile : (made : Made) → made.kind ≡ Mmc → IsByteAddressed made ⊎ (access_mode made.ocr ≡ 2)
    → 5 ≤ ext_csd_rev made.ext_csd → (hc_erase_grp_size made.ext_csd ≡ 0 → ⊥)
    → (access_mode made.ocr ≡ 2 → sec_count made.ext_csd ≡ 0 → ⊥) → IsPlain made → MmcInProfile made
mmc_in_profile made kind addresses revision erase_group counted plain = record {
  revision = revision;
  sector_size = plain.sector_size kind;
  unprotected = plain.unprotected kind;
  erase_group = erase_group;
  addresses = addressed made addresses counted;
}

sd_not_mmc : (kind : Kind) → kind ≡ Sd → kind ≡ Mmc → ⊥
sd_not_mmc Sd p q = cc q
sd_not_mmc Mmc p q = cc p

pub sd_within : (made : Made) → made.kind ≡ Sd → made.is_nameless ≡ false → window_at_3_3_volts made.ocr ≡ 3
    → made.is_locked ≡ false → IsStandardCapacity made ⊎ IsHighCapacity made → InProfile made
sd_within made kind named window unlocked capacity = record {
  window = window;
  unlocked = unlocked;
  sd = λ is. record { named = named; capacity = capacity };
  mmc = λ is. absurd (sd_not_mmc made.kind kind is);
}

pub mmc_within : (made : Made) → made.kind ≡ Mmc → window_at_3_3_volts made.ocr ≡ 3 → made.is_locked ≡ false
    → MmcInProfile made → InProfile made
mmc_within made kind window unlocked fit = record {
  window = window;
  unlocked = unlocked;
  sd = λ is. absurd (sd_not_mmc made.kind is kind);
  mmc = λ is. fit;
}
