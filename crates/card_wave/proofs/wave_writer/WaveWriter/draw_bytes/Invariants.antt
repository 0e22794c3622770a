use Rattle.std.proofs.Common.{take}
use Rattle.card_wave.specs.BlockSamples.{AreChecks, data_samples}
use Rattle.card_wave.specs.WaveText.{Drawn}
use Rattle.card_wave.proofs.wave_writer.WaveWriter.draw_bytes.Given as goal

abbrev pub invariant-loop-byte : goal.invariant-loop-byte
invariant-loop-byte g l = record {
  drawn : Drawn g.W.Write.contents l.fn.self l.self (data_samples l.fn.width (take l.byte-index l.bytes));
  checked : AreChecks l.checks.of_line (data_samples l.fn.width (take l.byte-index l.bytes));
}
