use Rattle.mmc_sdhci.proofs.Beginning.{clears, may_clear}
use Rattle.mmc_sdhci.proofs.command.clear.Goals as goal

pub write32-requires : goal.write32-requires
write32-requires g c =
    may_clear (g.R.Registers.view c.args.registers.now) c.args.under_way c.older_bits.result c.requires.rest
    c.requires.under_way c.older_bits.ensures

pub returns : goal.returns
returns g c =
    clears (g.R.Registers.view c.args.registers.now) (g.R.Registers.view c.write32.new.self) c.args.under_way
    c.older_bits.result c.older_bits.ensures c.write32.ensures.writes
