use Rattle.card_wave.specs.Samples.{held}
use Rattle.card_wave.specs.WaveText.{Drawn}
use Rattle.card_wave.proofs.wave_writer.WaveWriter.draw_held.Given as goal

abbrev pub invariant-loop-done : goal.invariant-loop-done
invariant-loop-done g l = Drawn g.W.Write.contents l.fn.self l.self (held l._done l.fn.sample)
