use Rattle.std.proofs.Common.{◌≡◌, length}
use Rattle.mmc_bus.specs.Together.{AreGood}
use Rattle.mmc_host.specs.HostStates.{less_by}
use Rattle.mmc_host.specs.Hosts.{Where}
use Rattle.mmc_host.specs.Together.{HostRead}
use Rattle.mmc_sdhci.specs.Driver.{host_over, told_so}
use Rattle.mmc_sdhci.proofs.sdhci.Sdhci.read_by_port.Given as goal

abbrev pub invariant-loop-done : goal.invariant-loop-done
invariant-loop-done g l =
    let old = host_over (g.R.Registers.view l.initial.self.registers) (told_so l.initial.self.state l.initial.self.told) l.initial.self.limits in
    let now = host_over (g.R.Registers.view l.self.registers) (told_so l.self.state l.self.told) l.self.limits in
    AreGood HostRead g.D.Blocks.blocks g.D.BlocksMut.with old l.initial.blocks l.done now l.blocks
    × (length (g.D.Blocks.blocks l.blocks) ≡ l.count)
    × Where now (l.self.state.transfer ≡ less_by l.done l.fn.command.transfer)
