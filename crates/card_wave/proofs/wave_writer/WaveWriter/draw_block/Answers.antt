use Rattle.std.proofs.Common.{subst}
use Rattle.text_out.specs.Writing.{AppendsFront}
use Rattle.card_wave.specs.BlockSamples.{block_samples, data_samples}
use Rattle.card_wave.specs.WaveText.{Drawn, wave_text}
use Rattle.card_wave.proofs.DrawLemmas.{draws_more, draws_failed, draws_broken}
use Rattle.card_wave.proofs.wave_writer.WaveWriter.draw_block.Goals as goal

pub returns-in_err-draw_start : goal.returns-in_err-draw_start
unfolding block_samples
returns-in_err-draw_start g c =
    draws_failed _ _ _ _ _ _ c.from_residual.ensures.0 c.in_err-draw_start.ensures

pub returns-in_err-checks : goal.returns-in_err-checks
unfolding block_samples
returns-in_err-checks g c =
    draws_broken _ _ _ _ _ _ _ _ c.from_residual-in_err-checks.ensures.0 c.in_ok-draw_start.ensures
    c.in_err-checks.ensures.drawn

pub returns-in_err-draw_all : goal.returns-in_err-draw_all
unfolding block_samples
returns-in_err-draw_all g c =
    let sent = data_samples c.args.width c.args.bytes.now in
    draws_more _ _ _ _ _ _ _ c.in_ok-draw_start.ensures
    (draws_broken _ _ _ _ _ _ _ _ c.from_residual-in_err-draw_all.ensures.0 c.in_ok-checks.ensures.drawn
    (subst (λ l. AppendsFront (g.W.Write.contents c.draw_bytes.new.self.out)
    (g.W.Write.contents c.draw_all.new.self.out) (wave_text c.draw_bytes.new.self.end l))
    (c.samples.ensures sent c.in_ok-checks.ensures.checked) c.in_err-draw_all.ensures))

pub returns : goal.returns
unfolding block_samples
returns g c =
    let sent = data_samples c.args.width c.args.bytes.now in
    draws_more _ _ _ _ _ _ _ c.in_ok-draw_start.ensures
    (draws_more _ _ _ _ _ _ _ c.in_ok-checks.ensures.drawn
    (draws_more _ _ _ _ _ _ _
    (subst (Drawn g.W.Write.contents c.draw_bytes.new.self c.draw_all.new.self)
    (c.samples.ensures sent c.in_ok-checks.ensures.checked) c.in_ok-draw_all.ensures) c.draw_idle.ensures))
