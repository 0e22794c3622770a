use Rattle.mmc_sdhci.proofs.Telling.{register_told}
use Rattle.mmc_sdhci.proofs.command.register.Goals as goal

pub returns : goal.returns
returns g c =
    register_told (g.R.Registers.view c.args.registers.now) (g.R.Registers.view c.word-highest.new.registers)
    (g.R.Registers.view c.word-high.new.registers) (g.R.Registers.view c.word-low.new.registers)
    (g.R.Registers.view c.word-lowest.new.registers) c.word-lowest.result c.word-low.result c.word-high.result
    c.word-highest.result c.register_in.result c.word-highest.ensures c.word-high.ensures c.word-low.ensures
    c.word-lowest.ensures c.register_in.ensures
