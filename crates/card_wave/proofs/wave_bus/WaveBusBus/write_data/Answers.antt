use Rattle.std.proofs.Common.{refl, sym, ◌∙◌}
use Rattle.card_wave.proofs.LabelLemmas.{shows_after, shows_none}
use Rattle.card_wave.proofs.wave_bus.WaveBusBus.write_data.Goals as goal

pub returns-then-label-clause-shown : goal.returns-then-label-clause-shown
returns-then-label-clause-shown g c =
    let labels = rw (← c.self-2.view_is) at c.label.ensures.labels in
    rw (← c.self.view_is)
    (shows_after _ c.write_data-got.new.self _ _ _ _ _ _ labels
    (rw (← c.self-2.view_is) at (sym c.label.ensures.can ∙ c.if-label.true))
    (rw labels.width at c.draw_sent-self-inside.ensures) refl refl refl)

pub returns-else-label-clause-shown : goal.returns-else-label-clause-shown
returns-else-label-clause-shown g c =
    rw (← c.self.view_is)
    (shows_none _ c.write_data-got.new.self _ _ _ _ c.label.ensures.labels (sym c.label.ensures.can ∙ c.if-label.false))
