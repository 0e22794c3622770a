-- One more line of a card file, below those that were taken.
use Rattle.std.proofs.Common.{◌≡◌, List, [], ◌∷◌, ◌++◌, Option, None, Some, refl, sym, ap, ◌∙◌}
use Rattle.std.specs.Option.{option_or}
use Rattle.std.proofs.lemmas.List.Sums.{fold-append}
use Rattle.std.specs.Prelude.{slice_set}
use Rattle.card_text.specs.declared.card_line.CardLine.{CardLine}
use Rattle.card_text.specs.declared.card_line.CardLine.TheVariants.{Busy, Cid, Cmd8, Csd, Ext, Fault, HighSpeed, Kind}
use Rattle.card_text.specs.declared.card_line.CardLine.TheVariants.{Early, KeepsLength, Locked, Ocr, Rca, Ready, Scr}
use Rattle.card_text.specs.declared.card_line.CardLine.TheVariants.{ExtChanges, GoesOn, LateStatus, R6App, Sectors, SlowStatus, StaysBusy}
use Rattle.card_text.specs.declared.card_spec.Given.{Given}
use Rattle.card_text.specs.CardSpecs.{busy_of_line, cid_of_line, cmd8_of_line, csd_of_line, early_of_line, ext_csd_of}
use Rattle.card_text.specs.CardSpecs.{first_of, given_by, high_speed_of_line, keeps_length_of_line, kind_of_line, lagging_of_line}
use Rattle.card_text.specs.CardSpecs.{ages_of_line, goes_on_of_line, late_of_line, locked_of_line, ocr_of_line, rca_of_line, shows_app_cmd_of_line}
use Rattle.card_text.specs.CardSpecs.{ready_of_line, scr_of_line, sectors_of_line, stays_busy_of_line, with_byte}

option_or_none : {A : Type 0} (o : Option A) → option_or o None ≡ o
option_or_none None = refl
option_or_none (Some x) = refl

option_or-assoc : {A : Type 0} (o p q : Option A) → option_or o (option_or p q) ≡ option_or (option_or o p) q
option_or-assoc None p q = refl
option_or-assoc (Some x) p q = refl

first_of-append : {A B : Type 0} (value : A → Option B) (above : List A) (x : A)
    → first_of value (above ++ x ∷ []) ≡ option_or (first_of value above) (value x)
unfolding first_of
first_of-append value [] x = option_or_none (value x)
first_of-append value (y ∷ above) x =
    ap (option_or (value y)) (first_of-append value above x) ∙ option_or-assoc (value y) (first_of value above) (value x)

-- what is given, and what one more line gives, by its key
abbrev pub with_line : Given → CardLine → Given
with_line given (Kind value) = record given { kind = option_or given.kind (Some value) }
with_line given (Ocr value) = record given { ocr = option_or given.ocr (Some value) }
with_line given (Cid value) = record given { cid = option_or given.cid (Some value) }
with_line given (Csd value) = record given { csd = option_or given.csd (Some value) }
with_line given (Sectors value) = record given { sectors = option_or given.sectors (Some value) }
with_line given (Ready value) = record given { ready = option_or given.ready (Some value) }
with_line given (Busy value) = record given { busy = option_or given.busy (Some value) }
with_line given (Early value) = record given { early = option_or given.early (Some value) }
with_line given (KeepsLength value) = record given { keeps_length = option_or given.keeps_length (Some value) }
with_line given (StaysBusy value) = record given { stays_busy = option_or given.stays_busy (Some value) }
with_line given (SlowStatus value) = record given { lagging = option_or given.lagging (Some value) }
with_line given (LateStatus value) = record given { late = option_or given.late (Some value) }
with_line given (GoesOn value) = record given { goes_on = option_or given.goes_on (Some value) }
with_line given (Locked value) = record given { locked = option_or given.locked (Some value) }
with_line given (Scr value) = record given { scr = option_or given.scr (Some value) }
with_line given (Rca value) = record given { rca = option_or given.rca (Some value) }
with_line given (Cmd8 value) = record given { cmd8 = option_or given.cmd8 (Some value) }
with_line given (HighSpeed value) = record given { high_speed = option_or given.high_speed (Some value) }
with_line given (R6App value) = record given { shows_app_cmd = option_or given.shows_app_cmd (Some value) }
with_line given (ExtChanges value) = record given { ages = option_or given.ages (Some value) }
with_line given (Ext place value) = record given { ext_csd = slice_set given.ext_csd place value }
with_line given (Fault exchange fault) = given

-- the same, by what is given
by_fields : Given → CardLine → Given
by_fields given line = record {
  kind = option_or given.kind (kind_of_line line);
  ocr = option_or given.ocr (ocr_of_line line);
  cid = option_or given.cid (cid_of_line line);
  csd = option_or given.csd (csd_of_line line);
  sectors = option_or given.sectors (sectors_of_line line);
  ready = option_or given.ready (ready_of_line line);
  busy = option_or given.busy (busy_of_line line);
  early = option_or given.early (early_of_line line);
  keeps_length = option_or given.keeps_length (keeps_length_of_line line);
  stays_busy = option_or given.stays_busy (stays_busy_of_line line);
  lagging = option_or given.lagging (lagging_of_line line);
  late = option_or given.late (late_of_line line);
  goes_on = option_or given.goes_on (goes_on_of_line line);
  locked = option_or given.locked (locked_of_line line);
  scr = option_or given.scr (scr_of_line line);
  rca = option_or given.rca (rca_of_line line);
  cmd8 = option_or given.cmd8 (cmd8_of_line line);
  high_speed = option_or given.high_speed (high_speed_of_line line);
  shows_app_cmd = option_or given.shows_app_cmd (shows_app_cmd_of_line line);
  ages = option_or given.ages (ages_of_line line);
  ext_csd = with_byte given.ext_csd line;
}

same : (given : Given) (line : CardLine) → by_fields given line ≡ with_line given line
unfolding by_fields
same given (Fault exchange fault) = simp option_or_none
same given line = simp option_or_none

appended : (above : List CardLine) (line : CardLine) → given_by (above ++ line ∷ []) ≡ by_fields (given_by above) line
unfolding given_by ext_csd_of by_fields
appended above line = simp (first_of-append, fold-append)

pub taken : (above : List CardLine) (given next : Given) (line : CardLine) → given ≡ given_by above
    → next ≡ with_line given line → next ≡ given_by (above ++ line ∷ [])
taken above given next line before more =
    more ∙ ap (λ g. with_line g line) before ∙ sym (appended above line ∙ same (given_by above) line)
