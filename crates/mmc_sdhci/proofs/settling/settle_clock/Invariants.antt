use Rattle.std.proofs.Common.{◌*◌}
use Rattle.mmc_sdhci.specs.Controller.{Settled}
use Rattle.mmc_sdhci.proofs.Waiting.{IsTicking}
use Rattle.mmc_sdhci.proofs.settling.settle_clock.Given as goal

abbrev pub invariant-loop-look : goal.invariant-loop-look
invariant-loop-look g l =
    Settled (g.R.Registers.view l.initial.registers)
    (IsTicking (g.R.Registers.view l.initial.registers) (100 * l._look) (g.R.Registers.view l.registers)) (g.R.Registers.view l.registers)
