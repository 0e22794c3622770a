-- Headline (docs/AUDIT.md, "What to read").
-- What a host knows of a card, and what the card's registers say of it; of width and timing, what card and host can together.
use Rattle.std.specs.Prelude.{◌&&◌, ◌==◌, ◌≡◌, ◌⊎◌, Bool, Ok, Option, false, if◌then◌else◌, true, ℕ}
use Rattle.mmc_frame.specs.declared.kind.Kind.{Kind}
use Rattle.mmc_frame.specs.declared.kind.Kind.TheVariants.{Mmc, Sd}
use Rattle.mmc_regs.specs.Csd.{csd_in}
use Rattle.mmc_regs.specs.Register.{register_number}
use Rattle.mmc_regs.specs.Scr.{four_lines, scr_number}
use Rattle.mmc_ext_csd.specs.ExtCsd.{high_speed_at_52_mhz, trim_support}
use Rattle.mmc_ext_csd.specs.Partition.{existing_sectors}
use Rattle.mmc_card.specs.Limits.{fewer, slower}
use Rattle.mmc_card.specs.declared.exchange.Lines.{Lines}
use Rattle.mmc_card.specs.declared.exchange.Timing.{Timing}
use Rattle.mmc_card.specs.declared.exchange.Timing.TheVariants.{Default, High}
use Rattle.mmc_card.specs.declared.exchange.Width.{Width}
use Rattle.mmc_card.specs.declared.exchange.Width.TheVariants.{Eight, Four, One}
use Rattle.mmc_card.specs.declared.part.Part.{Part}
use Rattle.mmc_card.specs.Made.{Made, addressing_of, erase_unit_of_card, erased_byte_of_card, has_cmd23, has_high_speed}
use Rattle.mmc_card.specs.Made.{as_told, csd_told, has_switch_function, is_read_only, is_sd, sectors_in}
use Rattle.mmc_identify.specs.Stages.{IsRcaOf}
use Rattle.mmc_switch.specs.Sizes.{size_of, some_size}
use Rattle.mmc_switch.specs.declared.info.Info.{Info}

-- the size of a partition, where there is such a one
abbrev pub sectors_of : Info → Part → Option ℕ
sectors_of info part = some_size (size_of info.sizes part)

-- The most lines that a card has: of SD four where the SCR names them, of eMMC eight.
abbrev pub width_of : Made → Width
width_of made = if is_sd made.kind then (if four_lines (scr_number made.scr) == 1 then Four else One) else Eight

-- The lines that the stack uses: no more than the host has wired.
abbrev pub width_over : Lines → Made → Width
width_over limits made = fewer (width_of made) limits.width

-- The card has high speed: an SD card by its switch status, an eMMC device by DEVICE_TYPE.
abbrev pub has_high_timing : Made → Bool
has_high_timing made =
    if is_sd made.kind then has_switch_function made && has_high_speed made
    else high_speed_at_52_mhz made.ext_csd == 1

abbrev pub timing_of : Made → Timing
timing_of made = if has_high_timing made then High else Default

-- no faster than the host can
abbrev pub timing_over : Lines → Made → Timing
timing_over limits made = slower (timing_of made) limits.timing

-- The timing of a card over a host: high speed where both have it, but that an SD card may be left at default speed, since
-- it may refuse to switch.
abbrev pub IsTimingOver : Lines → Made → Timing → Type 0
IsTimingOver limits made timing = (timing ≡ timing_over limits made) ⊎ ((made.kind ≡ Sd) × (timing ≡ Default))

-- only eMMC devices trim
abbrev pub trims_of : Made → Bool
trims_of made = if is_sd made.kind then false else trim_support made.ext_csd == 1

-- ERASE_GROUP_DEF, which eMMC devices alone have
abbrev pub erase_group_def_of : Kind → ℕ
erase_group_def_of Sd = 0
erase_group_def_of Mmc = 1

-- An SD card may refuse high speed after one reset and take it after another.
abbrev pub lasting_timing : Kind → Timing → Timing
lasting_timing Sd timing = Default
lasting_timing Mmc timing = timing

-- What is known of a card for good: all but the RCA, in whose place 1 stands, since an SD card may publish another one
-- whenever it is asked, and an SD card's timing, in whose place default speed stands.
abbrev pub lasting : Info → Info
lasting info = record info { rca = 1; timing = lasting_timing info.kind info.timing }

-- What the host knows of the card is what its registers say; its width and timing are those that a host with these limits has too.
-- Of trims and of CMD23 this holds between what is used and what the card has.
pub record IsInfoWith (Uses : Bool → Bool → Type 0) (limits : Lines) (made : Made) (info : Info) : Type 0 where
  pub kind : info.kind ≡ made.kind
  pub addressing : info.addressing ≡ addressing_of made
  pub rca : IsRcaOf made info.rca
  pub cid : info.cid ≡ register_number made.cid
  -- as the card told it first, with TMP_WRITE_PROTECT that had come on or without
  pub says : Bool
  pub csd : csd_in made.kind (csd_told says made) ≡ Ok info.csd
  -- a partition that commands can't address as a whole doesn't exist
  pub sizes : (part : Part) → size_of info.sizes part ≡ existing_sectors (sectors_in made part) (addressing_of made)
  pub read_only : info.read_only ≡ is_read_only (as_told says made)
  pub erase_unit : info.erase_unit ≡ erase_unit_of_card made
  pub erased_byte : info.erased_byte ≡ erased_byte_of_card made
  pub trims : Uses info.trims (trims_of made)
  pub cmd23 : Uses info.cmd23 (has_cmd23 made)
  pub width : info.width ≡ width_over limits made
  pub timing : IsTimingOver limits made info.timing

-- all that the card has is used
abbrev pub IsInfo : Lines → Made → Info → Type 0
IsInfo = IsInfoWith (λ used has. used ≡ has)

-- no more is used than the card has
abbrev pub IsKnown : Lines → Made → Info → Type 0
IsKnown = IsInfoWith (λ used has. used ≡ true → has ≡ true)

-- the same, but that trims and CMD23 aren't used where the other doesn't use them, and that what the card told of its write
-- protection stays
abbrev pub used_as : Info → Info → Info
used_as other info = record info {
  csd = other.csd;
  read_only = other.read_only;
  trims = info.trims && other.trims;
  cmd23 = info.cmd23 && other.cmd23;
}
