use Rattle.std.proofs.Common.{◌∙◌, sym}
use Rattle.mmc_sdhci.proofs.Finishing.{watch_moving_over}
use Rattle.mmc_sdhci.proofs.moving.look.Goals as goal

pub returns-then-is_over-clause-watches : goal.returns-then-is_over-clause-watches
returns-then-is_over-clause-watches g c =
    watch_moving_over (g.R.Registers.view c.args.registers.now) (g.R.Registers.view c.loop-number.registers)
    (g.R.Registers.view c.read32-bits.new.self) c.read32-bits.result c.requires.rest c.requires.moving c.loop-number.invariant.watched
    c.read32-bits.ensures.reads (sym c.is_over.ensures ∙ c.if-is_over.true)
