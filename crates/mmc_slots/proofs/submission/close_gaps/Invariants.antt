use Rattle.mmc_slots.proofs.GapLemmas.{Closed}
use Rattle.mmc_slots.proofs.submission.close_gaps.Given as goal

abbrev pub invariant-loop-from : goal.invariant-loop-from
invariant-loop-from l = Closed l.to l.from l.slots l.fn.slots
