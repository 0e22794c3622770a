-- What a card in memory is made with, by its registers.
use Rattle.std.specs.Prelude.{◌-◌, Bool, List, None, Option, Some, [], false, if◌then◌else◌, replicate, slice_index, slice_set, true, ℕ}
use Rattle.mmc_frame.specs.declared.kind.Kind.{Kind}
use Rattle.mmc_frame.specs.declared.kind.Kind.TheVariants as Is
use Rattle.mmc_card.specs.Made.{Made}
use Rattle.mmc_card_rows.specs.declared.registers.KindRegisters.{KindRegisters}
use Rattle.mmc_card_rows.specs.declared.registers.KindRegisters.TheVariants.{Mmc, Sd}
use Rattle.mmc_card_rows.specs.declared.registers.Registers.{Registers}

abbrev pub kind_of : KindRegisters → Kind
kind_of (Sd sd) = Is.Sd
kind_of (Mmc mmc) = Is.Mmc

abbrev pub scr_of : KindRegisters → List ℕ
scr_of (Sd sd) = sd.scr
scr_of (Mmc mmc) = []

-- All 0 but bytes 13 and 16: function 1 of group 1, high speed, is supported and selected, or neither.
abbrev pub switch_status_by : Bool → List ℕ
switch_status_by has_high_speed =
    slice_set (slice_set (replicate 64 0) 13 (if has_high_speed then 3 else 1)) 16 (if has_high_speed then 1 else 15)

abbrev pub switch_status_of : KindRegisters → List ℕ
switch_status_of (Sd sd) = switch_status_by sd.has_high_speed
switch_status_of (Mmc mmc) = []

abbrev pub ext_csd_of : KindRegisters → List ℕ
ext_csd_of (Sd sd) = []
ext_csd_of (Mmc mmc) = mmc.ext_csd

-- the RCA in front of the one that an SD card publishes first
abbrev pub last_rca_by : KindRegisters → ℕ
last_rca_by (Sd sd) = sd.rca - 1
last_rca_by (Mmc mmc) = 0

abbrev pub rca_changes_by : KindRegisters → Bool
rca_changes_by (Sd sd) = sd.rca_changes
rca_changes_by (Mmc mmc) = false

-- DEVICE_LIFE_TIME_EST_TYP_A of an eMMC device that ages, as it is made with
abbrev pub first_life_time : Bool → KindRegisters → Option ℕ
first_life_time true (Mmc mmc) = Some (slice_index mmc.ext_csd 268)
first_life_time _ _ = None

abbrev pub knows_cmd8 : KindRegisters → Bool
knows_cmd8 (Sd sd) = sd.answers_cmd8
knows_cmd8 (Mmc mmc) = false

-- no card in memory is nameless: one whose registers have RCA 0 isn't built
abbrev pub made_of : Registers → Made
made_of registers =
    record {
      kind = kind_of registers.kind;
      ocr = registers.ocr;
      cid = registers.cid;
      csd = registers.csd;
      scr = scr_of registers.kind;
      switch_status = switch_status_of registers.kind;
      ext_csd = ext_csd_of registers.kind;
      is_nameless = false;
      is_locked = registers.is_locked;
      answers_cmd8 = knows_cmd8 registers.kind;
    }
