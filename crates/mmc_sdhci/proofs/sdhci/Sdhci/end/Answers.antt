use Rattle.mmc_sdhci.proofs.Losing.{lost_unlent}
use Rattle.mmc_sdhci.proofs.sdhci.Sdhci.end.Goals as goal

pub returns-clause-lost : goal.returns-clause-lost
returns-clause-lost g c =
    lost_unlent (g.R.Registers.view c.args.self.now.registers) (g.R.Registers.view c.lose_rest.new.registers)
    (g.R.Registers.view c.take_back.new.self) c.lose_rest.ensures.lost c.take_back.ensures
