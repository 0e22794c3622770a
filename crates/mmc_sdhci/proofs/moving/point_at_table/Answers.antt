use Rattle.std.proofs.Common.{◌∙◌, sym}
use Rattle.mmc_sdhci.specs.Lent.{size_of}
use Rattle.mmc_sdhci.proofs.Limits.{may_select}
use Rattle.mmc_sdhci.proofs.moving.point_at_table.Goals as goal

pub write8-requires : goal.write8-requires
write8-requires g c kept =
    let view = g.R.Registers.view c.args.registers.now in
    let free = c.requires.free kept in
    may_select view c.control_of.result view.dma.start (size_of view.dma.lent) c.args.dma free.0 free.1.0
    c.control_of.ensures.alone c.control_of.ensures.selects (c.requires.reaches kept)
    (c.control_of.ensures.lines ∙ sym (c.requires.lines kept))
