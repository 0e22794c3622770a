use Rattle.card_wave.proofs.DrawLemmas.{draws_more, draws_failed}
use Rattle.card_wave.proofs.wave_writer.WaveWriter.draw_ended.Goals as goal

pub returns-in_err-draw_block : goal.returns-in_err-draw_block
returns-in_err-draw_block g c =
    draws_failed _ _ _ _ _ _ c.from_residual.ensures.0 c.in_err-draw_block.ensures

pub returns : goal.returns
returns g c = draws_more _ _ _ _ _ _ _ c.in_ok-draw_block.ensures c.draw_idle.ensures
