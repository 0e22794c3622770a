use Rattle.mmc_sdhci.proofs.Showing.{may_show_own, restarts}
use Rattle.mmc_sdhci.proofs.start.restart.Goals as goal

pub write32-requires : goal.write32-requires
write32-requires g c =
    may_show_own (g.R.Registers.view c.args.registers.now) (g.R.Registers.view c.write8.new.self)
    (g.R.Registers.view c.settle_reset.new.registers) c.args.kept c.of_the_slot-kept.result c.requires c.write8.ensures.writes
    c.settle_reset.ensures c.of_the_slot-kept.ensures.bits

pub returns : goal.returns
returns g c =
    restarts (g.R.Registers.view c.args.registers.now) (g.R.Registers.view c.write8.new.self)
    (g.R.Registers.view c.settle_reset.new.registers) (g.R.Registers.view c.write32.new.self)
    (g.R.Registers.view c.write32-2.new.self) c.args.kept c.of_the_slot-kept.result c.write8.ensures.writes
    c.settle_reset.ensures c.write32.ensures.writes c.write32-2.ensures.writes c.of_the_slot-kept.ensures.bits
