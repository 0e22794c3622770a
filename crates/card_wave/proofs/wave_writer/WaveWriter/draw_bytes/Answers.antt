use Rattle.std.proofs.Common.{take, drop, get_or, suc, sym, subst}
use Rattle.std.specs.List.{flat_map}
use Rattle.card_wave.specs.BlockSamples.{AreChecks, byte_samples, data_samples}
use Rattle.card_wave.specs.WaveText.{Drawn, Draws}
use Rattle.card_wave.proofs.DrawLemmas.{drawn_none, drawn_more, draws_broken, pieces_at, pieces_taken}
use Rattle.card_wave.proofs.wave_writer.WaveWriter.draw_bytes.Goals as goal

pub loop-byte-init : goal.loop-byte-init
unfolding data_samples
loop-byte-init g c = record { drawn = drawn_none _ _; checked = c.new-checks.ensures }

pub loop-byte-preserved : goal.loop-byte-preserved
unfolding data_samples
loop-byte-preserved g c =
    let bytes = c.args.bytes.now in
    let i = c.loop-byte.byte-index in
    let more = sym (pieces_taken (byte_samples c.args.width) bytes i 0 c.loop-byte-test.true) in
    record {
      drawn = subst (Drawn g.W.Write.contents c.args.self.now c.draw_byte.new.self) more
          (drawn_more _ _ _ _ (flat_map (byte_samples c.args.width) (take i bytes))
          (byte_samples c.args.width (get_or bytes i 0)) c.loop-byte.invariant.drawn c.in_ok-draw_byte.ensures.drawn);
      checked = subst (AreChecks c.draw_byte.new.checks.of_line) more
          (c.in_ok-draw_byte.ensures.checked (flat_map (byte_samples c.args.width) (take i bytes)) c.loop-byte.invariant.checked);
    }

pub returns-in_err-draw_byte-clause-drawn : goal.returns-in_err-draw_byte-clause-drawn
unfolding data_samples
returns-in_err-draw_byte-clause-drawn g c =
    let bytes = c.args.bytes.now in
    let i = c.loop-byte.byte-index in
    subst (Draws g.W.Write.contents c.args.self.now c.draw_byte.new.self c.from_residual.result)
    (sym (pieces_at (byte_samples c.args.width) bytes i 0 c.loop-byte-test.true))
    (draws_broken _ _ _ _ _ (flat_map (byte_samples c.args.width) (take i bytes))
    (byte_samples c.args.width (get_or bytes i 0)) (flat_map (byte_samples c.args.width) (drop (suc i) bytes))
    c.from_residual.ensures.0 c.loop-byte.invariant.drawn c.in_err-draw_byte.ensures.drawn)
