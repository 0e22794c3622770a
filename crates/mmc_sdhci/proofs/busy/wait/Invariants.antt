use Rattle.std.proofs.Common.{◌+◌, ◌≤◌}
use Rattle.mmc_sdhci.specs.Accesses.{Stays}
use Rattle.mmc_sdhci.specs.Moving.{WhereKept}
use Rattle.mmc_sdhci.proofs.busy.wait.Given as goal

abbrev pub invariant-loop-left : goal.invariant-loop-left
invariant-loop-left g l =
    record {
      stays : Stays (g.R.Registers.view l.initial.registers) (g.R.Registers.view l.registers);
      less : l.left ≤ l.micros;
      waited : WhereKept (g.R.Registers.view l.registers)
          ((g.R.Registers.beside l.initial.registers).waited + l.micros ≤ (g.R.Registers.beside l.registers).waited + l.left);
    }

abbrev pub decreases-loop-left : goal.decreases-loop-left
decreases-loop-left g l = l.left
