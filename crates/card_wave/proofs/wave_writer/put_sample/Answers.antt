use Rattle.std.proofs.Common.{refl}
use Rattle.text_out.proofs.WritingLemmas.{front_before, writes_failed, writes_broken, writes_after}
use Rattle.card_wave.specs.WaveText.{sample_text}
use Rattle.card_wave.proofs.wave_writer.put_sample.Goals as goal

pub returns-in_err-put_edge : goal.returns-in_err-put_edge
unfolding sample_text
returns-in_err-put_edge g c =
    writes_failed _ _ _ _ c.from_residual.ensures.0 (front_before _ _ _ _ c.in_err-put_edge.ensures)

pub returns-in_err-put_changes : goal.returns-in_err-put_changes
unfolding sample_text
returns-in_err-put_changes g c =
    writes_broken _ _ _ _ _ _ _ _ c.from_residual-in_err-put_changes.ensures.0 refl c.in_ok-put_edge.ensures
    c.in_err-put_changes.ensures

pub returns : goal.returns
unfolding sample_text
returns g c =
    writes_after _ _ _ _ _ _ c.in_ok-put_edge.ensures
    (writes_after _ _ _ _ _ _ c.in_ok-put_changes.ensures c.put_edge-2.ensures)
