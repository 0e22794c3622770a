use Rattle.std.proofs.Common.{◌≡◌, length}
use Rattle.sdhci_model.specs.Moves.{HaveRead}
use Rattle.sdhci_model.proofs.engine.Engine.fetch_blocks.Given as goal

abbrev pub invariant-loop-i : goal.invariant-loop-i
invariant-loop-i g l = record {
  come : HaveRead g.S.HasStory.story l.initial.self.diary.past l.initial.self.state l.blocks.items l.i l.self.diary.past;
  count : length l.blocks.items ≡ l.i;
  state : l.self.state ≡ l.initial.self.state;
}
