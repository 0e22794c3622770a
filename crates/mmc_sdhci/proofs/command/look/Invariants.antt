use Rattle.std.proofs.Common.{◌*◌, ◌+◌, ◌≤◌}
use Rattle.mmc_sdhci.specs.Moving.{WhereKept}
use Rattle.mmc_sdhci.proofs.Looking.{OnlyLooked}
use Rattle.mmc_sdhci.proofs.command.look.Given as goal

abbrev pub invariant-loop-look : goal.invariant-loop-look
invariant-loop-look g l =
    record {
      only : OnlyLooked (g.R.Registers.view l.initial.registers) (g.R.Registers.view l.registers);
      waited : WhereKept (g.R.Registers.view l.registers)
          ((g.R.Registers.beside l.initial.registers).waited + 10 * l._look ≤ (g.R.Registers.beside l.registers).waited);
    }
