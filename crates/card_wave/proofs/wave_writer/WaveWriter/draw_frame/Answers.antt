use Rattle.std.proofs.Common.{take, drop, get_or, suc, sym, subst}
use Rattle.std.specs.List.{flat_map}
use Rattle.std.proofs.lemmas.List.{take_all}
use Rattle.text_out.specs.Writing.{AppendsFront}
use Rattle.card_wave.specs.CommandSamples.{byte_on_cmd, frame_samples}
use Rattle.card_wave.specs.WaveText.{Drawn, Draws, wave_text}
use Rattle.card_wave.proofs.DrawLemmas.{drawn_none, drawn_more, draws_broken, pieces_at, pieces_taken}
use Rattle.card_wave.proofs.wave_writer.WaveWriter.draw_frame.Goals as goal

pub loop-byte-init : goal.loop-byte-init
unfolding frame_samples
loop-byte-init g c = drawn_none _ _

pub loop-byte-preserved : goal.loop-byte-preserved
unfolding frame_samples
loop-byte-preserved g c =
    let bytes = c.args.bytes.now in
    let i = c.loop-byte.byte-index in
    subst (Drawn g.W.Write.contents c.args.self.now c.draw_all.new.self)
    (sym (pieces_taken byte_on_cmd bytes i 0 c.loop-byte-test.true))
    (drawn_more _ _ _ _ (flat_map byte_on_cmd (take i bytes)) (byte_on_cmd (get_or bytes i 0)) c.loop-byte.invariant
    (subst (Drawn g.W.Write.contents c.loop-byte.self c.draw_all.new.self) c.on_cmd.ensures c.in_ok-draw_all.ensures))

pub returns-in_err-draw_all : goal.returns-in_err-draw_all
unfolding frame_samples
returns-in_err-draw_all g c =
    let bytes = c.args.bytes.now in
    let i = c.loop-byte.byte-index in
    subst (Draws g.W.Write.contents c.args.self.now c.draw_all.new.self c.from_residual.result)
    (sym (pieces_at byte_on_cmd bytes i 0 c.loop-byte-test.true))
    (draws_broken _ _ _ _ _ (flat_map byte_on_cmd (take i bytes)) (byte_on_cmd (get_or bytes i 0))
    (flat_map byte_on_cmd (drop (suc i) bytes)) c.from_residual.ensures.0 c.loop-byte.invariant
    (subst (λ l. AppendsFront (g.W.Write.contents c.loop-byte.self.out) (g.W.Write.contents c.draw_all.new.self.out)
    (wave_text c.loop-byte.self.end l)) c.on_cmd.ensures c.in_err-draw_all.ensures))

pub returns : goal.returns
unfolding frame_samples
returns g c =
    subst (λ l. Drawn g.W.Write.contents c.args.self.now c.loop-byte.self (frame_samples l))
    (take_all c.loop-byte.byte-index c.args.bytes.now c.loop-byte-test.false) c.loop-byte.invariant
