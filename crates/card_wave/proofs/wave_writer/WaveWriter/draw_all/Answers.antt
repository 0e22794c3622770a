use Rattle.std.proofs.Common.{◌∷◌, [], take, drop, get_or, suc, sym, subst}
use Rattle.std.proofs.lemmas.List.{take_more, take_all}
use Rattle.card_wave.specs.WaveText.{Drawn, Draws}
use Rattle.card_wave.proofs.DrawLemmas.{drawn_none, drawn_more, draws_broken, no_sample, parts_at}
use Rattle.card_wave.proofs.wave_writer.WaveWriter.draw_all.Goals as goal

pub loop-sample-init : goal.loop-sample-init
loop-sample-init g c = drawn_none _ _

pub loop-sample-preserved : goal.loop-sample-preserved
loop-sample-preserved g c =
    subst (Drawn g.W.Write.contents c.args.self.now c.draw.new.self)
    (sym (take_more c.args.samples.now c.loop-sample.sample-index _ c.loop-sample-test.true))
    (drawn_more _ _ _ _ _ _ c.loop-sample.invariant c.in_ok-draw.ensures)

pub returns-in_err-draw : goal.returns-in_err-draw
returns-in_err-draw g c =
    let samples = c.args.samples.now in
    let i = c.loop-sample.sample-index in
    subst (Draws g.W.Write.contents c.args.self.now c.draw.new.self c.from_residual.result)
    (sym (parts_at samples i no_sample c.loop-sample-test.true))
    (draws_broken _ _ _ _ _ (take i samples) (get_or samples i no_sample ∷ []) (drop (suc i) samples)
    c.from_residual.ensures.0 c.loop-sample.invariant c.in_err-draw.ensures)

pub returns : goal.returns
returns g c =
    subst (Drawn g.W.Write.contents c.args.self.now c.loop-sample.self)
    (take_all c.loop-sample.sample-index c.args.samples.now c.loop-sample-test.false) c.loop-sample.invariant
