use Rattle.std.proofs.Common.{◌-◌, ◌∷◌, [], subst, suc}
use Rattle.card_wave.specs.Samples.{held}
use Rattle.card_wave.specs.WaveText.{Drawn, Draws}
use Rattle.card_wave.proofs.DrawLemmas.{draws_broken, drawn_more, drawn_none, held_at, held_more}
use Rattle.card_wave.proofs.wave_writer.WaveWriter.draw_held.Goals as goal

pub loop-done-init : goal.loop-done-init
unfolding held
loop-done-init g c = drawn_none _ _

pub loop-done-preserved : goal.loop-done-preserved
loop-done-preserved g c =
    subst (Drawn g.W.Write.contents c.args.self.now c.draw.new.self) (held_more c.loop-done._done c.args.sample)
    (drawn_more _ _ _ _ _ _ c.loop-done.invariant c.in_ok-draw.ensures)

pub returns-in_err-draw : goal.returns-in_err-draw
returns-in_err-draw g c =
    subst (Draws g.W.Write.contents c.args.self.now c.draw.new.self c.from_residual.result)
    (held_at c.loop-done._done c.args.count c.args.sample c.loop-done-test.true)
    (draws_broken _ _ _ _ _ (held c.loop-done._done c.args.sample) (c.args.sample ∷ [])
    (held (c.args.count - suc c.loop-done._done) c.args.sample) c.from_residual.ensures.0 c.loop-done.invariant
    c.in_err-draw.ensures)
