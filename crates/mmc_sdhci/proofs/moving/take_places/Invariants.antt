use Rattle.std.proofs.Common.{◌-◌, ◌≡◌, ◌≤◌, List, Some, ℕ}
use Rattle.mmc_sdhci.specs.Controller.{Settled}
use Rattle.mmc_sdhci.specs.Lent.{Come}
use Rattle.mmc_sdhci.proofs.Placing.{AreFilled, AreFrom}
use Rattle.mmc_sdhci.proofs.moving.take_places.Given as goal

abbrev pub invariant-loop-done : goal.invariant-loop-done
invariant-loop-done g l =
    let v0 = g.R.Registers.view l.initial.registers in
    let v = g.R.Registers.view l.registers in
    record {
      inside : l.done ≤ l.count;
      filled : AreFilled g.D.Blocks.blocks g.D.BlocksMut.with l.initial.blocks l.done l.blocks;
      come : Settled v0
          ((v ≡ v0)
          × ((come : List (List ℕ)) → v0.dma.lent ≡ Some (Come come) → AreFrom come l.done (g.D.Blocks.blocks l.blocks)))
          v;
    }

abbrev pub decreases-loop-done : goal.decreases-loop-done
decreases-loop-done g l = l.count - l.done
