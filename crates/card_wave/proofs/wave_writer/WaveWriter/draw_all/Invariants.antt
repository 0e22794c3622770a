use Rattle.std.proofs.Common.{take}
use Rattle.card_wave.specs.WaveText.{Drawn}
use Rattle.card_wave.proofs.wave_writer.WaveWriter.draw_all.Given as goal

abbrev pub invariant-loop-sample : goal.invariant-loop-sample
invariant-loop-sample g l = Drawn g.W.Write.contents l.fn.self l.self (take l.sample-index l.samples)
