use Rattle.card_wave.specs.BlockSamples.{sent_samples}
use Rattle.card_wave.proofs.DrawLemmas.{draws_more, draws_failed, draws_broken}
use Rattle.card_wave.proofs.wave_writer.WaveWriter.draw_sent.Goals as goal

pub returns-in_err-draw_block : goal.returns-in_err-draw_block
unfolding sent_samples
returns-in_err-draw_block g c =
    draws_failed _ _ _ _ _ _ c.from_residual.ensures.0 c.in_err-draw_block.ensures

pub returns-in_err-draw_idle : goal.returns-in_err-draw_idle
unfolding sent_samples
returns-in_err-draw_idle g c =
    draws_broken _ _ _ _ _ _ _ _ c.from_residual-in_err-draw_idle.ensures.0 c.in_ok-draw_block.ensures
    c.in_err-draw_idle.ensures

pub returns-in_err-draw_status : goal.returns-in_err-draw_status
unfolding sent_samples
returns-in_err-draw_status g c =
    draws_more _ _ _ _ _ _ _ c.in_ok-draw_block.ensures
    (draws_broken _ _ _ _ _ _ _ _ c.from_residual-in_err-draw_status.ensures.0 c.in_ok-draw_idle.ensures
    c.in_err-draw_status.ensures)

pub returns : goal.returns
unfolding sent_samples
returns g c =
    draws_more _ _ _ _ _ _ _ c.in_ok-draw_block.ensures
    (draws_more _ _ _ _ _ _ _ c.in_ok-draw_idle.ensures
    (draws_more _ _ _ _ _ _ _ c.in_ok-draw_status.ensures c.draw_idle-2.ensures))
