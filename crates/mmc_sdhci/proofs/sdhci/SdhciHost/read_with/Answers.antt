use Rattle.std.proofs.Common.{refl}
use Rattle.mmc_sdhci.specs.Driver.{host_over, told_so}
use Rattle.mmc_sdhci.proofs.CommandByDma.{reads_again}
use Rattle.mmc_sdhci.proofs.sdhci.SdhciHost.read_with.Goals as goal

pub returns-in-None : goal.returns-in-None
returns-in-None g c =
    let same = c.in-None.ensures.same refl in
    reads_again g.D.Blocks.blocks g.D.BlocksMut.with
    (host_over (g.R.Registers.view c.args.self.now.registers) (told_so c.args.self.now.state c.args.self.now.told) c.args.self.now.limits)
    (host_over (g.R.Registers.view c.read_by_dma.new.self.registers) (told_so c.read_by_dma.new.self.state c.read_by_dma.new.self.told) c.read_by_dma.new.self.limits)
    (host_over (g.R.Registers.view c.read_by_port.new.self.registers) (told_so c.read_by_port.new.self.state c.read_by_port.new.self.told) c.read_by_port.new.self.limits)
    c.args.command c.args.blocks.now c.read_by_dma.new.blocks c.read_by_port.result.0 c.read_by_port.result.1
    c.read_by_port.new.blocks same.1 same.0 c.read_by_port.ensures
