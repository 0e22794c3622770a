use Rattle.mmc_queue.proofs.LentLemmas.{NoneBefore}
use Rattle.mmc_queue.proofs.group.Group.first_for.Given as goal

abbrev pub invariant-loop-k : goal.invariant-loop-k
invariant-loop-k l = NoneBefore l.held l.self.members.items l.sector l.k
