use Rattle.mmc_sdhci.proofs.Looking.{look_after, look_again, looked_in_vain, runs_still}
use Rattle.mmc_sdhci.proofs.command.wait.Goals as goal

pub returns-then-is_over-clause-ends : goal.returns-then-is_over-clause-ends
returns-then-is_over-clause-ends g c =
    look_after (g.R.Registers.view c.args.registers.now) (g.R.Registers.view c.wait.new.self) (g.R.Registers.view c.read32-bits.new.self)
    c.read32-bits.result
    (runs_still (g.R.Registers.view c.args.registers.now) (g.R.Registers.view c.look-bits.new.registers)
    (g.R.Registers.view c.wait.new.self) c.look-bits.result c.if-bits-ne0.false c.look-bits.ensures.ends c.wait.ensures.stays)
    c.read32-bits.ensures.reads

pub returns-else-is_over-clause-ends : goal.returns-else-is_over-clause-ends
returns-else-is_over-clause-ends g c =
    looked_in_vain (g.R.Registers.view c.args.registers.now) (g.R.Registers.view c.read32-bits.new.self)
    (look_again (g.R.Registers.view c.args.registers.now) (g.R.Registers.view c.wait.new.self) (g.R.Registers.view c.read32-bits.new.self)
    c.read32-bits.result (c.is_over.ensures.runs c.if-is_over.false)
    (runs_still (g.R.Registers.view c.args.registers.now) (g.R.Registers.view c.look-bits.new.registers)
    (g.R.Registers.view c.wait.new.self) c.look-bits.result c.if-bits-ne0.false c.look-bits.ensures.ends c.wait.ensures.stays)
    c.read32-bits.ensures.reads)
