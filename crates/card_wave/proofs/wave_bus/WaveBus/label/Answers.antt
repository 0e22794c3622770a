use Rattle.std.proofs.Common.{refl, sym, ◌∙◌}
use Rattle.std.proofs.lemmas.Bool.{false≢true}
use Rattle.card_wave.proofs.LabelLemmas.{no_fault}
use Rattle.card_wave.proofs.wave_bus.WaveBus.label.Goals as goal

pub returns-in-Err-clause-labels : goal.returns-in-Err-clause-labels
returns-in-Err-clause-labels g c =
    rw (← c.self.view_is)
    record {
      drawn = λ was. rw c.in-Some.is c.in-Err.ensures.text;
      still = λ no. absurd (false≢true (sym no ∙ no_fault c.self.inside.fault c.if-is_err.ensures.value));
      over = λ no. refl;
      bus = refl;
      width = refl;
      end = c.in-Err.ensures.end;
    }
