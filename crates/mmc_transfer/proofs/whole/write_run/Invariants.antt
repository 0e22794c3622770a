use Rattle.mmc_transfer.specs.Run.{exchanges_left}
use Rattle.mmc_transfer.proofs.WholeLemmas.{IsAlong}
use Rattle.mmc_transfer.proofs.whole.write_run.Given as goal

abbrev pub invariant-loop-run : goal.invariant-loop-run
invariant-loop-run g l =
    IsAlong l.initial.run l.run (g.D.Blocks.blocks l.blocks) (g.B.Bus.view l.initial.bus) (g.B.Bus.view l.bus)

abbrev pub decreases-loop-run : goal.decreases-loop-run
decreases-loop-run g l = exchanges_left l.run
