use Rattle.std.proofs.Common.{◌*◌, ◌+◌, ◌<◌, ◌≡◌, ◌≤◌, false}
use Rattle.mmc_sdhci.specs.Accesses.{Stays}
use Rattle.mmc_sdhci.specs.Beside.{is_sure}
use Rattle.mmc_sdhci.specs.Moving.{WhereKept}
use Rattle.mmc_sdhci.proofs.start.has_card.Given as goal

abbrev pub invariant-loop-look : goal.invariant-loop-look
invariant-loop-look g l =
    record {
      stays : Stays (g.R.Registers.view l.initial.registers) (g.R.Registers.view l.registers);
      waited : WhereKept (g.R.Registers.view l.registers)
          ((g.R.Registers.beside l.initial.registers).waited + 100 * l._look ≤ (g.R.Registers.beside l.registers).waited);
      unsure : WhereKept (g.R.Registers.view l.registers)
          (0 < l._look → is_sure (g.R.Registers.beside l.registers).present ≡ false);
    }
