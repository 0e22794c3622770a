use Rattle.text_out.proofs.WritingLemmas.{front_before, writes_failed, writes_after}
use Rattle.card_wave.specs.WaveText.{changes_text}
use Rattle.card_wave.proofs.DrawLemmas.{writes_whole}
use Rattle.card_wave.proofs.wave_writer.put_changes.Goals as goal

pub returns-in_err-put_change : goal.returns-in_err-put_change
unfolding changes_text
returns-in_err-put_change g c =
    writes_failed _ _ _ _ c.from_residual.ensures.0 (front_before _ _ _ _ c.in_err-put_change.ensures)

pub returns-in_err-put_change-2 : goal.returns-in_err-put_change-2
unfolding changes_text
returns-in_err-put_change-2 g c =
    writes_after _ _ _ _ _ _ c.in_ok-put_change.ensures
    (writes_failed _ _ _ _ c.from_residual-in_err-put_change-2.ensures.0 (front_before _ _ _ _ c.in_err-put_change-2.ensures))

pub returns-in_err-put_change-3 : goal.returns-in_err-put_change-3
unfolding changes_text
returns-in_err-put_change-3 g c =
    writes_after _ _ _ _ _ _ c.in_ok-put_change.ensures
    (writes_after _ _ _ _ _ _ c.in_ok-put_change-2.ensures
    (writes_failed _ _ _ _ c.from_residual-in_err-put_change-3.ensures.0 (front_before _ _ _ _ c.in_err-put_change-3.ensures)))

pub returns-in_err-put_change-4 : goal.returns-in_err-put_change-4
unfolding changes_text
returns-in_err-put_change-4 g c =
    writes_after _ _ _ _ _ _ c.in_ok-put_change.ensures
    (writes_after _ _ _ _ _ _ c.in_ok-put_change-2.ensures
    (writes_after _ _ _ _ _ _ c.in_ok-put_change-3.ensures
    (writes_failed _ _ _ _ c.from_residual-in_err-put_change-4.ensures.0 (front_before _ _ _ _ c.in_err-put_change-4.ensures))))

pub returns-in_err-put_change-5 : goal.returns-in_err-put_change-5
unfolding changes_text
returns-in_err-put_change-5 g c =
    writes_after _ _ _ _ _ _ c.in_ok-put_change.ensures
    (writes_after _ _ _ _ _ _ c.in_ok-put_change-2.ensures
    (writes_after _ _ _ _ _ _ c.in_ok-put_change-3.ensures
    (writes_after _ _ _ _ _ _ c.in_ok-put_change-4.ensures
    (writes_failed _ _ _ _ c.from_residual-in_err-put_change-5.ensures.0 (front_before _ _ _ _ c.in_err-put_change-5.ensures)))))

pub returns-in_err-put_change-6 : goal.returns-in_err-put_change-6
unfolding changes_text
returns-in_err-put_change-6 g c =
    writes_after _ _ _ _ _ _ c.in_ok-put_change.ensures
    (writes_after _ _ _ _ _ _ c.in_ok-put_change-2.ensures
    (writes_after _ _ _ _ _ _ c.in_ok-put_change-3.ensures
    (writes_after _ _ _ _ _ _ c.in_ok-put_change-4.ensures
    (writes_after _ _ _ _ _ _ c.in_ok-put_change-5.ensures
    (writes_failed _ _ _ _ c.from_residual-in_err-put_change-6.ensures.0 (front_before _ _ _ _ c.in_err-put_change-6.ensures))))))

pub returns-in_err-put_change-7 : goal.returns-in_err-put_change-7
unfolding changes_text
returns-in_err-put_change-7 g c =
    writes_after _ _ _ _ _ _ c.in_ok-put_change.ensures
    (writes_after _ _ _ _ _ _ c.in_ok-put_change-2.ensures
    (writes_after _ _ _ _ _ _ c.in_ok-put_change-3.ensures
    (writes_after _ _ _ _ _ _ c.in_ok-put_change-4.ensures
    (writes_after _ _ _ _ _ _ c.in_ok-put_change-5.ensures
    (writes_after _ _ _ _ _ _ c.in_ok-put_change-6.ensures
    (writes_failed _ _ _ _ c.from_residual-in_err-put_change-7.ensures.0 (front_before _ _ _ _ c.in_err-put_change-7.ensures)))))))

pub returns-in_err-put_change-8 : goal.returns-in_err-put_change-8
unfolding changes_text
returns-in_err-put_change-8 g c =
    writes_after _ _ _ _ _ _ c.in_ok-put_change.ensures
    (writes_after _ _ _ _ _ _ c.in_ok-put_change-2.ensures
    (writes_after _ _ _ _ _ _ c.in_ok-put_change-3.ensures
    (writes_after _ _ _ _ _ _ c.in_ok-put_change-4.ensures
    (writes_after _ _ _ _ _ _ c.in_ok-put_change-5.ensures
    (writes_after _ _ _ _ _ _ c.in_ok-put_change-6.ensures
    (writes_after _ _ _ _ _ _ c.in_ok-put_change-7.ensures
    (writes_failed _ _ _ _ c.from_residual-in_err-put_change-8.ensures.0 (front_before _ _ _ _ c.in_err-put_change-8.ensures))))))))

pub returns : goal.returns
unfolding changes_text
returns g c =
    writes_after _ _ _ _ _ _ c.in_ok-put_change.ensures
    (writes_after _ _ _ _ _ _ c.in_ok-put_change-2.ensures
    (writes_after _ _ _ _ _ _ c.in_ok-put_change-3.ensures
    (writes_after _ _ _ _ _ _ c.in_ok-put_change-4.ensures
    (writes_after _ _ _ _ _ _ c.in_ok-put_change-5.ensures
    (writes_after _ _ _ _ _ _ c.in_ok-put_change-6.ensures
    (writes_after _ _ _ _ _ _ c.in_ok-put_change-7.ensures
    (writes_after _ _ _ _ _ _ c.in_ok-put_change-8.ensures
    (writes_whole _ _ _ _ c.put_change-9.ensures))))))))
