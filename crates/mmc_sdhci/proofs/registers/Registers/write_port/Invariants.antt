use Rattle.mmc_sdhci.specs.Controller.{Settled}
use Rattle.mmc_sdhci.proofs.Putting.{ArePut}
use Rattle.mmc_sdhci.proofs.registers.Registers.write_port.Given as goal

abbrev pub invariant-loop-i : goal.invariant-loop-i
invariant-loop-i g l =
    Settled (g.Self.Registers.view l.initial.self)
    (ArePut (g.Self.Registers.view l.initial.self) l.i l.block (g.Self.Registers.view l.self))
    (g.Self.Registers.view l.self)
