use Rattle.mmc_queue.proofs.ConflictLemmas.{conflict_is_common_sector}
use Rattle.mmc_queue.proofs.laws.a_conflict_is_a_common_sector.Goals as goal

pub returns : goal.returns
returns c = conflict_is_common_sector
