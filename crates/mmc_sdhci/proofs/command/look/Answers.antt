use Rattle.std.proofs.Common.{rules}
use Rattle.mmc_sdhci.proofs.Looking.{look_after, look_again, stays_so}
use Rattle.mmc_sdhci.proofs.command.look.Goals as goal

pub returns-then-is_over-clause-ends : goal.returns-then-is_over-clause-ends
returns-then-is_over-clause-ends g c =
    look_after _ _ (g.R.Registers.view c.read32-bits.new.self) c.read32-bits.result c.loop-look.invariant.only c.read32-bits.ensures.reads

pub loop-look-preserved : goal.loop-look-preserved
loop-look-preserved g c =
    record {
      only = stays_so (g.R.Registers.view c.args.registers.now) (g.R.Registers.view c.read32-bits.new.self)
          (g.R.Registers.view c.pause.new.registers)
          (look_again (g.R.Registers.view c.args.registers.now) (g.R.Registers.view c.loop-look.registers)
          (g.R.Registers.view c.read32-bits.new.self) c.read32-bits.result (c.is_over.ensures.runs c.if-is_over.false)
          c.loop-look.invariant.only c.read32-bits.ensures.reads)
          c.pause.ensures.stays;
      waited = search rules;
    }
