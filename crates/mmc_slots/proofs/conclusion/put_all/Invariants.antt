use Rattle.mmc_slots.proofs.ServedLemmas.{MovedOn}
use Rattle.mmc_slots.proofs.conclusion.put_all.Given as goal

abbrev pub invariant-loop-k : goal.invariant-loop-k
invariant-loop-k l = MovedOn l.state l.k l.slots l.fn.slots
