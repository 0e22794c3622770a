use Rattle.mmc_sdhci.proofs.Showing.{errors_there, errors_written, may_show_errors}
use Rattle.mmc_sdhci.proofs.moving.show_dma_errors.Goals as goal

pub write32-requires : goal.write32-requires
write32-requires g c =
    may_show_errors (g.R.Registers.view c.args.registers.now) (g.R.Registers.view c.read32-shown.new.self) c.read32-shown.result
    c.of_the_slot.result c.requires c.read32-shown.ensures.reads c.of_the_slot.ensures.bits

pub returns-then-shown-wanted : goal.returns-then-shown-wanted
returns-then-shown-wanted g c =
    errors_written (g.R.Registers.view c.args.registers.now) (g.R.Registers.view c.read32-shown.new.self)
    (g.R.Registers.view c.write32.new.self) c.read32-shown.result c.of_the_slot.result c.read32-shown.ensures.reads
    c.write32.ensures.writes c.of_the_slot.ensures.bits

pub returns-else-shown-wanted : goal.returns-else-shown-wanted
returns-else-shown-wanted g c =
    errors_there (g.R.Registers.view c.args.registers.now) (g.R.Registers.view c.read32-shown.new.self) c.read32-shown.result
    c.of_the_slot.result c.read32-shown.ensures.reads c.if-shown-wanted.false c.of_the_slot.ensures.bits
