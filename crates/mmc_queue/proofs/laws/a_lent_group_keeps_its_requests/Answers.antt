use Rattle.mmc_queue.proofs.LendingLemmas.{joined_kept, requests_kept, extent_kept}
use Rattle.mmc_queue.proofs.laws.a_lent_group_keeps_its_requests.Goals as goal

pub returns : goal.returns
returns c = record { extent = extent_kept; requests = requests_kept; joined = joined_kept }
