use Rattle.std.proofs.Common.{◌+◌, ◌/◌, refl}
use Rattle.mmc_sdhci.proofs.Waiting.{powers_up}
use Rattle.mmc_sdhci.proofs.start.power_up.Goals as goal

pub returns : goal.returns
returns g c =
    powers_up (g.R.Registers.view c.args.registers.now) (g.R.Registers.view c.pause.new.self) c.args.base c.args.version
    (1001 + 151404 / c.args.base) c.requires.some refl c.requires.base c.requires.clocked c.pause.ensures.passes
