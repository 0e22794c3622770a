use Rattle.std.proofs.Common.{◌≡◌}
use Rattle.sdhci_model.proofs.engine.Engine.waits.Given as goal

abbrev pub invariant-loop-look : goal.invariant-loop-look
invariant-loop-look g l = record {
  past : l.self.diary.past ≡ l.initial.self.diary.past;
  state : l.self.state ≡ l.initial.self.state;
}
