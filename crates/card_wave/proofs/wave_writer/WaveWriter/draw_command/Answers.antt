use Rattle.card_wave.specs.CommandSamples.{command_samples}
use Rattle.card_wave.proofs.DrawLemmas.{draws_more, draws_failed, draws_broken}
use Rattle.card_wave.proofs.wave_writer.WaveWriter.draw_command.Goals as goal

pub returns-in_err-draw_frame : goal.returns-in_err-draw_frame
unfolding command_samples
returns-in_err-draw_frame g c =
    draws_failed _ _ _ _ _ _ c.from_residual.ensures.0 c.in_err-draw_frame.ensures

pub returns-in_err-draw_idle : goal.returns-in_err-draw_idle
unfolding command_samples
returns-in_err-draw_idle g c =
    draws_broken _ _ _ _ _ _ _ _ c.from_residual-in_err-draw_idle.ensures.0 c.in_ok-draw_frame.ensures
    c.in_err-draw_idle.ensures

pub returns-in_err-draw_reply : goal.returns-in_err-draw_reply
unfolding command_samples
returns-in_err-draw_reply g c =
    draws_more _ _ _ _ _ _ _ c.in_ok-draw_frame.ensures
    (draws_broken _ _ _ _ _ _ _ _ c.from_residual-in_err-draw_reply.ensures.0 c.in_ok-draw_idle.ensures
    c.in_err-draw_reply.ensures)

pub returns : goal.returns
unfolding command_samples
returns g c =
    draws_more _ _ _ _ _ _ _ c.in_ok-draw_frame.ensures
    (draws_more _ _ _ _ _ _ _ c.in_ok-draw_idle.ensures
    (draws_more _ _ _ _ _ _ _ c.in_ok-draw_reply.ensures c.draw_idle-2.ensures))
