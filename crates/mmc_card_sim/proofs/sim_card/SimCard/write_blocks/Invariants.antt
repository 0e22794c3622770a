use Rattle.std.proofs.Common.{◌≡◌, []}
use Rattle.mmc_bus.specs.Together.{AreAccepted, BlockWritten, NotBusy}
use Rattle.mmc_card_sim.specs.SimView.{sim_bus_view}
use Rattle.mmc_card_sim.proofs.sim_card.SimCard.write_blocks.Given as goal

abbrev pub invariant-loop-done : goal.invariant-loop-done
invariant-loop-done g l = record {
  accepted : AreAccepted BlockWritten NotBusy (g.D.Blocks.blocks l.blocks) (sim_bus_view l.fn.self) l.done (sim_bus_view l.self);
  plan : l.self.plan ≡ l.fn.self.plan;
  faults : l.fn.self.plan ≡ [] → l.self.faults ≡ l.fn.self.faults;
}
