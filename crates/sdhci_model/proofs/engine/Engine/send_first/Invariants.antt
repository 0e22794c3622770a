use Rattle.std.proofs.Common.{◌≡◌}
use Rattle.sdhci_model.specs.Moves.{GoesOn}
use Rattle.sdhci_model.proofs.engine.Engine.send_first.Given as goal

abbrev pub invariant-loop-i : goal.invariant-loop-i
invariant-loop-i g l = record {
  sent : GoesOn g.S.HasStory.story l.initial.self.diary.past l.initial.self.state l.i l.self.diary.past;
  state : l.self.state ≡ l.initial.self.state;
}
