use Rattle.mmc_queue.proofs.ConflictLemmas.{conflict_either_way}
use Rattle.mmc_queue.proofs.laws.conflict_is_symmetric.Goals as goal

pub returns : goal.returns
returns c = conflict_either_way
