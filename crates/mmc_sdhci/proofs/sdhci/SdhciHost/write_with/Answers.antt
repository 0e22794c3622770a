use Rattle.std.proofs.Common.{refl}
use Rattle.mmc_sdhci.specs.Driver.{host_over, told_so}
use Rattle.mmc_sdhci.proofs.CommandByDma.{writes_again}
use Rattle.mmc_sdhci.proofs.sdhci.SdhciHost.write_with.Goals as goal

pub returns-in-None : goal.returns-in-None
returns-in-None g c =
    writes_again
    (host_over (g.R.Registers.view c.args.self.now.registers) (told_so c.args.self.now.state c.args.self.now.told) c.args.self.now.limits)
    (host_over (g.R.Registers.view c.write_by_dma.new.self.registers) (told_so c.write_by_dma.new.self.state c.write_by_dma.new.self.told)
    c.write_by_dma.new.self.limits)
    (host_over (g.R.Registers.view c.write_by_port.new.self.registers) (told_so c.write_by_port.new.self.state c.write_by_port.new.self.told)
    c.write_by_port.new.self.limits) c.args.command (g.D.Blocks.blocks c.args.blocks.now) c.write_by_port.result.0
    c.write_by_port.result.1 (c.in-None.ensures.same refl) c.write_by_port.ensures
