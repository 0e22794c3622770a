use Rattle.std.proofs.Common.{◌∙◌, sym}
use Rattle.mmc_sdhci.proofs.Glancing.{watch_over}
use Rattle.mmc_sdhci.proofs.watching.look_often.Goals as goal

pub returns-then-is_over-clause-watches : goal.returns-then-is_over-clause-watches
returns-then-is_over-clause-watches g c =
    watch_over c.args.sought (g.R.Registers.view c.args.registers.now) _ (g.R.Registers.view c.look-seen.new.registers)
    c.look-seen.result c.requires c.loop-number.invariant.watched c.look-seen.ensures.glances (sym c.is_over.ensures ∙ c.if-is_over.true)
