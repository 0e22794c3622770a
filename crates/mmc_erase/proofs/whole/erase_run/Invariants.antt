use Rattle.mmc_erase.specs.Run.{exchanges_left}
use Rattle.mmc_erase.proofs.WholeLemmas.{IsAlong}
use Rattle.mmc_erase.proofs.whole.erase_run.Given as goal

abbrev pub invariant-loop-run : goal.invariant-loop-run
invariant-loop-run g l = IsAlong l.initial.run l.run (g.B.Bus.view l.initial.bus) (g.B.Bus.view l.bus)

abbrev pub decreases-loop-run : goal.decreases-loop-run
decreases-loop-run g l = exchanges_left l.run
