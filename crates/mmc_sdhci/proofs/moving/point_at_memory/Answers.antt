use Rattle.std.proofs.Common.{ap, sym, ◌∙◌}
use Rattle.mmc_sdhci.specs.Accesses.{may_write8, written}
use Rattle.mmc_sdhci.specs.Controller.{ControllerView}
use Rattle.mmc_sdhci.specs.Lent.{size_of}
use Rattle.mmc_sdhci.specs.declared.dma.Dma.TheVariants.{Sdma}
use Rattle.mmc_sdhci.proofs.Limits.{may_select}
use Rattle.mmc_sdhci.proofs.moving.point_at_memory.Goals as goal

pub write8-requires : goal.write8-requires
write8-requires g c kept =
    let second = c.write32-2.ensures.writes kept in
    let first = c.write32.ensures.writes second.0 in
    let free = c.requires.free first.0 in
    let view = g.R.Registers.view c.args.registers.now in
    let control = c.control_of.result in
    ap (λ (v : ControllerView). may_write8 v 0x28 control)
    (second.1 ∙ ap (λ (v : ControllerView). written v 0x00 c.args.start) first.1)
    ∙ may_select (written (written view 0x04 0x7000) 0x00 c.args.start) control c.args.start (size_of view.dma.lent) Sdma free.0 free.1.0
    c.control_of.ensures.alone c.control_of.ensures.selects (c.requires.reaches first.0).1
    (c.control_of.ensures.lines ∙ sym (c.requires.lines first.0))
