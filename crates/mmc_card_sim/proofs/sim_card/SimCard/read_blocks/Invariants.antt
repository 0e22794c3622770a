use Rattle.std.proofs.Common.{◌≡◌, [], length}
use Rattle.mmc_bus.specs.Together.{AreGood, BlockRead}
use Rattle.mmc_card_sim.specs.SimView.{sim_bus_view}
use Rattle.mmc_card_sim.proofs.sim_card.SimCard.read_blocks.Given as goal

abbrev pub invariant-loop-done : goal.invariant-loop-done
invariant-loop-done g l = record {
  good : AreGood BlockRead g.D.Blocks.blocks g.D.BlocksMut.with (sim_bus_view l.fn.self) l.fn.blocks l.done (sim_bus_view l.self) l.blocks;
  plan : l.self.plan ≡ l.fn.self.plan;
  faults : l.fn.self.plan ≡ [] → l.self.faults ≡ l.fn.self.faults;
  count : length (g.D.Blocks.blocks l.blocks) ≡ l.count;
}
