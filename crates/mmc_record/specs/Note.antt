-- What the numbers of a record say of a card.
use Rattle.std.specs.Prelude.{◌&&◌, ◌==◌, ◌||◌, ◌≡◌, Bool, None, Ok, Option, Some, if◌then◌else◌, is_ok, not}
use Rattle.std.specs.Prelude.{true, ℕ}
use Rattle.std.specs.Int.{bytes_high_first}
use Rattle.mmc_regs.specs.Csd.{csd_in, csd_number}
use Rattle.mmc_regs.specs.Register.{checked_number}
use Rattle.mmc_ext_csd.specs.Partition.{existing_sectors}
use Rattle.mmc_card.specs.declared.part.Part.{Part}
use Rattle.mmc_card.specs.declared.part.Part.TheVariants.{Boot1, Boot2, Gp1, Gp2, Gp3, Gp4, User}
use Rattle.mmc_bus.specs.declared.cause.Cause.{Cause}
use Rattle.mmc_bus.specs.declared.cause.Cause.TheVariants.{Recovery}
use Rattle.mmc_switch.specs.Sizes.{size_of}
use Rattle.mmc_switch.specs.UnderWay.{broken_off}
use Rattle.mmc_switch.specs.declared.broken.Broken.{Broken}
use Rattle.mmc_switch.specs.declared.info.Info.{Info}
use Rattle.mmc_switch.specs.declared.session.Session.{Session}
use Rattle.mmc_switch.specs.declared.stands.Stands.{Stands}
use Rattle.mmc_switch.specs.declared.stands.Stands.TheVariants as Stands
use Rattle.mmc_record.specs.Numbers.{addressing_of, cause_of, is_set, kind_of, part_of, timing_of, width_of}
use Rattle.mmc_record.specs.declared.record.CardRecord.{CardRecord}

-- The size that is noted of a partition.
abbrev pub noted_size : CardRecord → Part → ℕ
noted_size note User = note.user
noted_size note Boot1 = note.boot
noted_size note Boot2 = note.boot
noted_size note Gp1 = note.gp1
noted_size note Gp2 = note.gp2
noted_size note Gp3 = note.gp3
noted_size note Gp4 = note.gp4

-- The numbers say this of the card. CID and CSD are the registers' bytes, with their checks; a partition that commands can't
-- address as a whole doesn't exist.
pub record SaysInfo (note : CardRecord) (info : Info) : Type 0 where
  pub kind : kind_of note.kind ≡ info.kind
  pub addressing : addressing_of note.addressing ≡ info.addressing
  pub rca : note.rca ≡ info.rca
  pub cid : checked_number note.cid ≡ Ok info.cid
  pub csd : csd_in (kind_of note.kind) note.csd ≡ Ok info.csd
  pub sizes : (part : Part) → existing_sectors (noted_size note part) (addressing_of note.addressing) ≡ size_of info.sizes part
  pub read_only : is_set note.read_only ≡ info.read_only
  pub erase_unit : note.erase_unit ≡ info.erase_unit
  pub erased_byte : note.erased_byte ≡ info.erased_byte
  pub trims : is_set note.trims ≡ info.trims
  pub cmd23 : is_set note.cmd23 ≡ info.cmd23
  pub width : width_of note.lines ≡ info.width
  pub timing : timing_of note.high_speed ≡ info.timing

-- They say this of the session.
pub record SaysSession (note : CardRecord) (session : Session) : Type 0 where
  pub info : SaysInfo note session.info
  pub partition_config : note.partition_config ≡ session.partition_config
  pub selected : part_of note.selected ≡ session.selected

-- A card that has to be reset: which partition is selected isn't known.
abbrev pub given_up : Session → Broken
given_up session = record { session = record session { selected = None }; cause = Recovery; must_reset = true }

-- How a card of this session stands: 1 ready, 2 broken, for this cause, 3 broken so that it has to be reset.
abbrev pub stands_by : ℕ → Session → Cause → Option Stands
stands_by state session cause =
    if state == 1 then Some (Stands.Ready session)
    else (if state == 2 then Some (Stands.Broken (broken_off session cause))
    else (if state == 3 then Some (Stands.Broken (given_up session)) else None))

-- The numbers are a note of a card that stands so.
pub record IsNoteOf (stands : Stands) (note : CardRecord) : Type 0 where
  pub session : Session
  pub says : SaysSession note session
  pub how : stands_by note.state session (cause_of note.cause) ≡ Some stands

-- a broken card as it is noted: one that has to be reset was given up
abbrev pub what_is_left : Broken → Broken
what_is_left broken = if broken.must_reset then given_up broken.session else broken

-- CID and CSD are good ones: as sixteen bytes they are read again as what they are.
pub record HasChecks (info : Info) : Type 0 where
  pub cid : checked_number (bytes_high_first 16 info.cid) ≡ Ok info.cid
  pub csd : csd_in info.kind (bytes_high_first 16 (csd_number info.csd)) ≡ Ok info.csd

-- The checks of CID and CSD fit, the CSD is one of this kind, and there is an erase unit.
abbrev pub has_info : CardRecord → Bool
has_info note =
    is_ok (checked_number note.cid) && is_ok (csd_in (kind_of note.kind) note.csd) && not (note.erase_unit == 0)

-- the numbers are a note of some card
abbrev pub is_note : CardRecord → Bool
is_note note = has_info note && (note.state == 1 || note.state == 2 || note.state == 3)
