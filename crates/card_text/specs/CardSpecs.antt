-- What a card is built by, as the lines of its file say.
use Rattle.std.specs.Prelude.{Bool, List, None, Option, Some, [], false, fold, replicate, slice_set, true, unwrap_or}
use Rattle.std.specs.Prelude.{◌∷◌, ℕ}
use Rattle.std.specs.Option.{option_or}
use Rattle.mmc_card_rows.specs.declared.registers.KindRegisters.{KindRegisters}
use Rattle.mmc_card_rows.specs.declared.registers.KindRegisters.TheVariants as Has
use Rattle.mmc_card_sim.specs.declared.spec.CardSpec.{CardSpec}
use Rattle.mmc_frame.specs.declared.kind.Kind.{Kind as CardKind}
use Rattle.mmc_frame.specs.declared.kind.Kind.TheVariants.{Mmc, Sd}
use Rattle.card_text.specs.declared.card_line.CardLine.{CardLine}
use Rattle.card_text.specs.declared.card_line.CardLine.TheVariants.{Busy, Cid, Cmd8, Csd, Ext, HighSpeed, Kind, Locked}
use Rattle.card_text.specs.declared.card_line.CardLine.TheVariants.{Early, KeepsLength, Ocr, Rca, Ready, Scr, Sectors}
use Rattle.card_text.specs.declared.card_line.HighSpeedChoice.{HighSpeedChoice}
use Rattle.card_text.specs.declared.card_line.HighSpeedChoice.TheVariants.{Refused, Taken}
use Rattle.mmc_card_rows.specs.declared.delays.Refusal.{Refusal}
use Rattle.card_text.specs.declared.card_line.CardLine.TheVariants.{ExtChanges, GoesOn, LateStatus, R6App, SlowStatus, StaysBusy}
use Rattle.card_text.specs.declared.card_line.PublishedRca.{PublishedRca}
use Rattle.card_text.specs.declared.card_line.PublishedRca.TheVariants.{Changes, Fixed}
use Rattle.card_text.specs.declared.card_spec.Given.{Given}

-- the value of the first element that has one
unfoldable pub first_of : {A B : Type 0} → (A → Option B) → List A → Option B
first_of value [] = None
first_of value (x ∷ others) = option_or (value x) (first_of value others)

-- the value that a line gives, for each key
abbrev pub kind_of_line : CardLine → Option CardKind
kind_of_line (Kind kind) = Some kind
kind_of_line line = None

abbrev pub ocr_of_line : CardLine → Option ℕ
ocr_of_line (Ocr ocr) = Some ocr
ocr_of_line line = None

abbrev pub cid_of_line : CardLine → Option (List ℕ)
cid_of_line (Cid bytes) = Some bytes
cid_of_line line = None

abbrev pub csd_of_line : CardLine → Option (List ℕ)
csd_of_line (Csd bytes) = Some bytes
csd_of_line line = None

abbrev pub sectors_of_line : CardLine → Option ℕ
sectors_of_line (Sectors count) = Some count
sectors_of_line line = None

abbrev pub ready_of_line : CardLine → Option ℕ
ready_of_line (Ready count) = Some count
ready_of_line line = None

abbrev pub busy_of_line : CardLine → Option ℕ
busy_of_line (Busy count) = Some count
busy_of_line line = None

abbrev pub early_of_line : CardLine → Option ℕ
early_of_line (Early bits) = Some bits
early_of_line line = None

abbrev pub keeps_length_of_line : CardLine → Option Bool
keeps_length_of_line (KeepsLength choice) = Some choice
keeps_length_of_line line = None

abbrev pub stays_busy_of_line : CardLine → Option Bool
stays_busy_of_line (StaysBusy choice) = Some choice
stays_busy_of_line line = None

abbrev pub lagging_of_line : CardLine → Option ℕ
lagging_of_line (SlowStatus count) = Some count
lagging_of_line line = None

abbrev pub late_of_line : CardLine → Option ℕ
late_of_line (LateStatus count) = Some count
late_of_line line = None

abbrev pub goes_on_of_line : CardLine → Option Bool
goes_on_of_line (GoesOn choice) = Some choice
goes_on_of_line line = None

abbrev pub locked_of_line : CardLine → Option Bool
locked_of_line (Locked choice) = Some choice
locked_of_line line = None

abbrev pub scr_of_line : CardLine → Option (List ℕ)
scr_of_line (Scr bytes) = Some bytes
scr_of_line line = None

abbrev pub rca_of_line : CardLine → Option PublishedRca
rca_of_line (Rca rca) = Some rca
rca_of_line line = None

abbrev pub cmd8_of_line : CardLine → Option Bool
cmd8_of_line (Cmd8 choice) = Some choice
cmd8_of_line line = None

abbrev pub high_speed_of_line : CardLine → Option HighSpeedChoice
high_speed_of_line (HighSpeed choice) = Some choice
high_speed_of_line line = None

abbrev pub shows_app_cmd_of_line : CardLine → Option Bool
shows_app_cmd_of_line (R6App choice) = Some choice
shows_app_cmd_of_line line = None

abbrev pub ages_of_line : CardLine → Option Bool
ages_of_line (ExtChanges choice) = Some choice
ages_of_line line = None

-- the byte that a line gives, in its place
abbrev pub with_byte : List ℕ → CardLine → List ℕ
with_byte block (Ext place value) = slice_set block place value
with_byte block line = block

-- 512 bytes, which are 00 but where a line gives another; the last line for a place counts
unfoldable pub ext_csd_of : List CardLine → List ℕ
ext_csd_of ls = fold with_byte (replicate 512 0) ls

-- the second step, where the first gave a value
infixl 10 ◌>>=◌
abbrev pub ◌>>=◌ : {A B : Type 0} → Option A → (A → Option B) → Option B
None >>= f = None
Some x >>= f = f x

-- what the lines give: for each key what its first line gives
unfoldable pub given_by : List CardLine → Given
given_by ls = record {
  kind = first_of kind_of_line ls;
  ocr = first_of ocr_of_line ls;
  cid = first_of cid_of_line ls;
  csd = first_of csd_of_line ls;
  sectors = first_of sectors_of_line ls;
  ready = first_of ready_of_line ls;
  busy = first_of busy_of_line ls;
  early = first_of early_of_line ls;
  keeps_length = first_of keeps_length_of_line ls;
  stays_busy = first_of stays_busy_of_line ls;
  lagging = first_of lagging_of_line ls;
  late = first_of late_of_line ls;
  goes_on = first_of goes_on_of_line ls;
  locked = first_of locked_of_line ls;
  scr = first_of scr_of_line ls;
  rca = first_of rca_of_line ls;
  cmd8 = first_of cmd8_of_line ls;
  high_speed = first_of high_speed_of_line ls;
  shows_app_cmd = first_of shows_app_cmd_of_line ls;
  ages = first_of ages_of_line ls;
  ext_csd = ext_csd_of ls;
}

-- the RCA that an SD card publishes first
abbrev pub first_rca : Option PublishedRca → ℕ
first_rca (Some (Fixed rca)) = rca
first_rca _ = 1

abbrev pub rca_changes : Option PublishedRca → Bool
rca_changes (Some Changes) = true
rca_changes _ = false

-- the switch status of an SD card names high speed
abbrev pub has_high_speed : Option HighSpeedChoice → Bool
has_high_speed (Some (Taken has)) = has
has_high_speed (Some (Refused refusal)) = true
has_high_speed None = false

-- how it refuses to switch, if it does
abbrev pub refusal_of : Option HighSpeedChoice → Option Refusal
refusal_of (Some (Refused refusal)) = Some refusal
refusal_of _ = None

-- what a card has by its kind: an SD card must have an SCR
abbrev pub own_registers_of : CardKind → Given → Option KindRegisters
own_registers_of Sd given = do
  scr ← given.scr
  Some (Has.Sd (record {
    scr = scr;
    rca = first_rca given.rca;
    rca_changes = rca_changes given.rca;
    answers_cmd8 = unwrap_or given.cmd8 false;
    has_high_speed = has_high_speed given.high_speed;
  }))
own_registers_of Mmc given = Some (Has.Mmc (record { ext_csd = given.ext_csd }))

-- what a card is built by of which this is given, or None where a key is missing that must stand
abbrev pub spec_by : Given → Option CardSpec
spec_by given = do
  kind ← given.kind
  own ← own_registers_of kind given
  ocr ← given.ocr
  cid ← given.cid
  csd ← given.csd
  sectors ← given.sectors
  Some (record {
    registers = record {
      kind = own;
      ocr = ocr;
      cid = cid;
      csd = csd;
      is_locked = unwrap_or given.locked false;
    };
    sectors = sectors;
    ready = unwrap_or given.ready 0;
    busy = unwrap_or given.busy 0;
    early = given.early;
    keeps_length = unwrap_or given.keeps_length true;
    refusal = refusal_of given.high_speed;
    stays_busy = unwrap_or given.stays_busy false;
    lagging = unwrap_or given.lagging 0;
    late = unwrap_or given.late 0;
    goes_on = unwrap_or given.goes_on false;
    shows_app_cmd = unwrap_or given.shows_app_cmd false;
    ages = unwrap_or given.ages false;
    image = None;
  })

-- what the card of these lines is built by
unfoldable pub spec_of : List CardLine → Option CardSpec
spec_of ls = spec_by (given_by ls)
