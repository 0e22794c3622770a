use Rattle.mmc_queue.proofs.FairLemmas.{one_joined}
use Rattle.mmc_queue.proofs.laws.one_is_joined.Goals as goal

pub returns : goal.returns
returns c = one_joined
