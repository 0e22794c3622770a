use Rattle.std.proofs.Common.{◌≡◌, length, take}
use Rattle.sdhci_model.proofs.lent.copies.Given as goal

abbrev pub invariant-loop-i : goal.invariant-loop-i
invariant-loop-i g l = record {
  count : length l.memory.items ≡ l.i;
  same : l.memory.items ≡ take l.i (g.D.Blocks.blocks l.blocks);
}
