use Rattle.mmc_block.proofs.ClientLemmas.{none_is_lost}
use Rattle.mmc_block.proofs.laws.no_request_is_lost.Goals as goal

pub returns : goal.returns
returns c = none_is_lost
