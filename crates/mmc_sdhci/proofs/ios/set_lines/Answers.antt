use Rattle.std.proofs.Common.{◌∙◌}
use Rattle.mmc_sdhci.proofs.Limits.{may_control, within_as}
use Rattle.mmc_sdhci.proofs.ios.set_lines.Goals as goal

pub write8-requires : goal.write8-requires
write8-requires g c kept =
    may_control (g.R.Registers.view c.args.registers.now) c.control_of.result (c.requires.rest kept) (c.requires.idle kept)
    c.control_of.ensures.alone c.control_of.ensures.selects
    (within_as (g.R.Registers.view c.args.registers.now).built (c.control_of.ensures.lines ∙ c.lines.ensures) (c.requires.within kept))
