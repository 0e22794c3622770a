use Rattle.std.proofs.Common.{◌++◌, List, take}
use Rattle.card_wave.specs.BlockSamples.{AreChecks}
use Rattle.card_wave.specs.declared.sample.Sample.{Sample}
use Rattle.card_wave.proofs.line_checks.LineChecks.push_all.Given as goal

abbrev pub invariant-loop-sample : goal.invariant-loop-sample
invariant-loop-sample l = (block : List Sample) → AreChecks l.fn.self.of_line block
    → AreChecks l.self.of_line (block ++ take l.sample-index l.samples)
