use Rattle.std.proofs.Common.{◌*◌, ◌+◌, ◌≤◌}
use Rattle.mmc_sdhci.specs.Controller.{Settled}
use Rattle.mmc_sdhci.specs.Moving.{WhereKept}
use Rattle.mmc_sdhci.proofs.Finishing.{OnlySeen}
use Rattle.mmc_sdhci.proofs.moving.look.Given as goal

abbrev pub invariant-loop-number : goal.invariant-loop-number
invariant-loop-number g l =
    record {
      watched : Settled (g.R.Registers.view l.initial.registers)
          (OnlySeen (g.R.Registers.view l.initial.registers) (g.R.Registers.view l.registers)) (g.R.Registers.view l.registers);
      first : WhereKept (g.R.Registers.view l.registers)
          ((g.R.Registers.beside l.initial.registers).waited + l.number ≤ (g.R.Registers.beside l.registers).waited);
      later : WhereKept (g.R.Registers.view l.registers)
          ((g.R.Registers.beside l.initial.registers).waited + 50 * l.number ≤ (g.R.Registers.beside l.registers).waited + 49000);
    }
