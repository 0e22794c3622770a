-- A bus that draws its exchanges.
use Rattle.std.specs.Prelude.{◌≡◌, ◌++◌, ℕ, List, Option, is_some, Bool, true, false}
use Rattle.std.specs.Bool.{MatchBool}
use Rattle.std.specs.Io.KnownBytes.{Appends}
use Rattle.text_out.specs.Writing.{AppendsFront}
use Rattle.mmc_card.specs.declared.exchange.Width.{Width}
use Rattle.card_wave.specs.declared.phase.Phase.{Phase}
use Rattle.card_wave.specs.declared.sample.Sample.{Sample}
use Rattle.card_wave.specs.declared.wave_writer.WaveWriter.{WaveWriter}
use Rattle.card_wave.specs.Header.{beginning, header_text}
use Rattle.card_wave.specs.Labels.{labels_text, next_number}
use Rattle.card_wave.specs.WaveText.{end_after, wave_text}

-- the bus inside, the writer with the end of the waveform, the lines in use, the number of the next exchange where there are
-- labels, and whether no fault of a write has come
pub record WaveView (B W : Type 0) : Type 0 where
  pub bus : B
  pub wave : WaveWriter W
  pub width : Width
  pub labels : Option ℕ
  pub is_drawing : Bool

-- the header went out, or after a fault a front of it
pub record Begins {B W : Type 0} (contents : W → Option (List ℕ)) (out : W) (new : WaveView B W) : Type 0 where
  pub header : MatchBool new.is_drawing
      (Appends (contents out) (contents new.wave.out) (header_text (is_some new.labels)))
      (AppendsFront (contents out) (contents new.wave.out) (header_text (is_some new.labels)))
  pub end : new.wave.end ≡ beginning

-- the text of an exchange: its labels, where there are labels, and its clocks
abbrev pub exchange_text : {B W : Type 0} → WaveView B W → Phase → List Sample → List ℕ
exchange_text old phase samples =
    labels_text old.labels old.wave.end.clock phase ++ wave_text old.wave.end samples

-- an exchange was drawn
pub record ShowsAll {B W : Type 0} (contents : W → Option (List ℕ)) (old : WaveView B W) (phase : Phase)
    (samples : List Sample) (new : WaveView B W) : Type 0 where
  pub written : Appends (contents old.wave.out) (contents new.wave.out) (exchange_text old phase samples)
  pub end : new.wave.end ≡ end_after old.wave.end samples
  pub labels : new.labels ≡ next_number old.labels

-- An exchange was drawn, or after a fault a front of its text. Once a fault has come nothing is drawn.
pub record Shows {B W : Type 0} (contents : W → Option (List ℕ)) (old : WaveView B W) (phase : Phase)
    (samples : List Sample) (new : WaveView B W) : Type 0 where
  pub drawn : old.is_drawing ≡ true → MatchBool new.is_drawing (ShowsAll contents old phase samples new)
      (AppendsFront (contents old.wave.out) (contents new.wave.out) (exchange_text old phase samples))
  pub still : old.is_drawing ≡ false → new.wave ≡ old.wave
  pub over : old.is_drawing ≡ false → new.is_drawing ≡ false
  pub width : new.width ≡ old.width

-- the labels of an exchange went out, where there are labels
pub record ShowsLabels {B W : Type 0} (contents : W → Option (List ℕ)) (old : WaveView B W) (phase : Phase)
    (new : WaveView B W) : Type 0 where
  pub written : Appends (contents old.wave.out) (contents new.wave.out) (labels_text old.labels old.wave.end.clock phase)
  pub labels : new.labels ≡ next_number old.labels

-- The same, or after a fault a front of them. Nothing else changes, and once a fault has come nothing is drawn.
pub record Labels {B W : Type 0} (contents : W → Option (List ℕ)) (old : WaveView B W) (phase : Phase)
    (new : WaveView B W) : Type 0 where
  pub drawn : old.is_drawing ≡ true → MatchBool new.is_drawing (ShowsLabels contents old phase new)
      (AppendsFront (contents old.wave.out) (contents new.wave.out) (labels_text old.labels old.wave.end.clock phase))
  pub still : old.is_drawing ≡ false → new.wave ≡ old.wave
  pub over : old.is_drawing ≡ false → new.is_drawing ≡ false
  pub bus : new.bus ≡ old.bus
  pub width : new.width ≡ old.width
  pub end : new.wave.end ≡ old.wave.end

-- nothing was drawn, and these lines are in use from now on
pub record Widens {B W : Type 0} (old : WaveView B W) (lines : Width) (new : WaveView B W) : Type 0 where
  pub wave : new.wave ≡ old.wave
  pub labels : new.labels ≡ old.labels
  pub is_drawing : new.is_drawing ≡ old.is_drawing
  pub width : new.width ≡ lines
