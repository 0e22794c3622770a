-- Labels as they are written piece by piece, and then the clocks of their exchange.
use Rattle.std.proofs.Common.{◌≡◌, ℕ, ◌*◌, List, [], ◌∷◌, ◌++◌, Bool, true, false, Option, Result, Ok, Err, refl, sym, ap, ◌∙◌, subst}
use Rattle.std.proofs.Common.{append_assoc, append-nil}
use Rattle.std.specs.Prelude.{codes, is_err, is_ok}
use Rattle.std.specs.Bool.{MatchBool}
use Rattle.std.specs.Fmt.{decimal}
use Rattle.std.specs.Io.KnownBytes.{Appends}
use Rattle.std.proofs.lemmas.Bool.{false≢true}
use Rattle.text_out.specs.Writing.{AppendsFront, Writes}
use Rattle.text_out.proofs.WritingLemmas.{appends_more, front_after, front_before}
use Rattle.card_wave.specs.declared.phase.Phase.{Phase}
use Rattle.card_wave.specs.declared.sample.Sample.{Sample}
use Rattle.card_wave.specs.Labels.{label_text, labels_text, phase_line}
use Rattle.card_wave.specs.WaveText.{Drawn, Draws, end_after, wave_text}
use Rattle.card_wave.specs.WaveView.{Labels, Shows, ShowsAll, ShowsLabels, WaveView, exchange_text}

-- the three lines of the labels
pub label_lines : (clock number : ℕ) (phase : Phase) → label_text clock number phase
    ≡ (codes "#" ++ (decimal (40 * clock) ++ 10 ∷ []))
    ++ ((codes "s" ++ (decimal number ++ (codes " x" ++ 10 ∷ []))) ++ (phase_line phase ++ 10 ∷ []))
label_lines clock number phase =
    ap (λ l. (codes "#" ++ (decimal (40 * clock) ++ 10 ∷ [])) ++ ((codes "s" ++ l) ++ ((phase_line phase ++ 10 ∷ []) ++ [])))
    (append_assoc (decimal number) (codes " x") (10 ∷ []))
    ∙ ap (λ l. (codes "#" ++ (decimal (40 * clock) ++ 10 ∷ [])) ++ ((codes "s" ++ (decimal number ++ (codes " x" ++ 10 ∷ []))) ++ l))
    (append-nil (phase_line phase ++ 10 ∷ []))

-- what holds in the case that is met
if_true : (A B : Type 0) (b : Bool) → b ≡ true → MatchBool b A B → A
if_true A B true e h = h
if_true A B false e h = absurd (false≢true e)

if_false : (A B : Type 0) (b : Bool) → b ≡ false → MatchBool b A B → B
if_false A B false e h = h
if_false A B true e h = absurd (false≢true (sym e))

-- where no fault is there none was there before
was_drawing : (was is : Bool) → (was ≡ false → is ≡ false) → is ≡ true → was ≡ true
was_drawing true is over e = refl
was_drawing false is over e = absurd (false≢true (sym (over refl) ∙ e))

-- the labels went out, and then the clocks
shows_all : {B W : Type 0} (contents : W → Option (List ℕ)) (old mid new : WaveView B W) (phase : Phase)
    (samples : List Sample) → ShowsLabels contents old phase mid → mid.wave.end ≡ old.wave.end
    → Drawn contents mid.wave new.wave samples → new.labels ≡ mid.labels → ShowsAll contents old phase samples new
shows_all contents old mid new phase samples out e d n =
    record {
      written = appends_more (contents old.wave.out) (contents mid.wave.out) (contents new.wave.out)
          (labels_text old.labels old.wave.end.clock phase) (wave_text old.wave.end samples) out.written
          (subst (λ end. Appends (contents mid.wave.out) (contents new.wave.out) (wave_text end samples)) e d.written);
      end = d.end ∙ ap (λ end. end_after end samples) e;
      labels = n ∙ out.labels;
    }

-- the labels went out, and then the clocks or after a fault a front of them
shows_drawn : {B W E : Type 0} (contents : W → Option (List ℕ)) (old mid new : WaveView B W) (phase : Phase)
    (samples : List Sample) (r : Result Unit E) → ShowsLabels contents old phase mid → mid.wave.end ≡ old.wave.end
    → Draws contents mid.wave new.wave r samples → new.labels ≡ mid.labels
    → MatchBool (is_ok r) (ShowsAll contents old phase samples new)
    (AppendsFront (contents old.wave.out) (contents new.wave.out) (exchange_text old phase samples))
shows_drawn contents old mid new phase samples (Ok x) out e d n = shows_all contents old mid new phase samples out e d n
shows_drawn contents old mid new phase samples (Err x) out e d n =
    front_after (contents old.wave.out) (contents mid.wave.out) (contents new.wave.out)
    (labels_text old.labels old.wave.end.clock phase) (wave_text old.wave.end samples) out.written
    (subst (λ end. AppendsFront (contents mid.wave.out) (contents new.wave.out) (wave_text end samples)) e d)

-- the labels and then clocks, after the bus inside has gone on
pub shows_after : {B W E : Type 0} (contents : W → Option (List ℕ)) (bus : B) (old mid new : WaveView B W) (phase : Phase)
    (samples : List Sample) (r : Result Unit E) → Labels contents (record old { bus = bus }) phase mid
    → mid.is_drawing ≡ true → Draws contents mid.wave new.wave r samples → new.is_drawing ≡ is_ok r
    → new.labels ≡ mid.labels → new.width ≡ mid.width → Shows contents old phase samples new
shows_after contents bus old mid new phase samples r l e d f n w =
    let was = was_drawing old.is_drawing mid.is_drawing l.over e in
    let out = if_true _ _ mid.is_drawing e (l.drawn was) in
    record {
      drawn = λ _. subst (λ b. MatchBool b (ShowsAll contents old phase samples new)
          (AppendsFront (contents old.wave.out) (contents new.wave.out) (exchange_text old phase samples))) (sym f)
          (shows_drawn contents old mid new phase samples r (record { written = out.written; labels = out.labels }) l.end d n);
      still = λ no. absurd (false≢true (sym no ∙ was));
      over = λ no. absurd (false≢true (sym no ∙ was));
      width = w ∙ l.width;
    }

-- a fault came with the labels, or had come before
pub shows_none : {B W : Type 0} (contents : W → Option (List ℕ)) (bus : B) (old new : WaveView B W) (phase : Phase)
    (samples : List Sample) → Labels contents (record old { bus = bus }) phase new → new.is_drawing ≡ false
    → Shows contents old phase samples new
shows_none contents bus old new phase samples l e =
    record {
      drawn = λ was. subst (λ b. MatchBool b (ShowsAll contents old phase samples new)
          (AppendsFront (contents old.wave.out) (contents new.wave.out) (exchange_text old phase samples))) (sym e)
          (front_before (contents old.wave.out) (contents new.wave.out) (labels_text old.labels old.wave.end.clock phase)
          (wave_text old.wave.end samples) (if_false _ _ new.is_drawing e (l.drawn was)));
      still = l.still;
      over = l.over;
      width = l.width;
    }

-- the header or a front of it, by whether it was written
pub header_by : {E : Type 0} (a b : Option (List ℕ)) (r : Result Unit E) (text : List ℕ) → Writes a b r text
    → MatchBool (is_ok r) (Appends a b text) (AppendsFront a b text)
header_by a b (Ok x) text h = h
header_by a b (Err x) text h = h

-- a result that is no error is not none
pub no_fault : {T E : Type 0} (r : Result T E) → false ≡ is_err r → is_ok r ≡ true
no_fault (Ok x) e = refl
no_fault (Err x) e = absurd (false≢true e)
