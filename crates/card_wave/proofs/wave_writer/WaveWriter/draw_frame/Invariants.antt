use Rattle.std.proofs.Common.{take}
use Rattle.card_wave.specs.CommandSamples.{frame_samples}
use Rattle.card_wave.specs.WaveText.{Drawn}
use Rattle.card_wave.proofs.wave_writer.WaveWriter.draw_frame.Given as goal

abbrev pub invariant-loop-byte : goal.invariant-loop-byte
invariant-loop-byte g l = Drawn g.W.Write.contents l.fn.self l.self (frame_samples (take l.byte-index l.bytes))
