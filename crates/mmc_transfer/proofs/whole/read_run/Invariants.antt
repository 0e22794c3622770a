use Rattle.mmc_bus.specs.Lending.{IsRewritten}
use Rattle.mmc_transfer.specs.Run.{exchanges_left}
use Rattle.mmc_transfer.proofs.WholeLemmas.{IsAlong}
use Rattle.mmc_transfer.proofs.whole.read_run.Given as goal

abbrev pub invariant-loop-run : goal.invariant-loop-run
invariant-loop-run g l =
    IsAlong l.initial.run l.run (g.D.Blocks.blocks l.blocks) (g.B.Bus.view l.initial.bus) (g.B.Bus.view l.bus)
    × IsRewritten g.D.Blocks.blocks g.D.BlocksMut.with l.initial.blocks l.blocks

abbrev pub decreases-loop-run : goal.decreases-loop-run
decreases-loop-run g l = exchanges_left l.run
