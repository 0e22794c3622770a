use Rattle.mmc_block.proofs.ClientLemmas.{clients_see}
use Rattle.mmc_block.proofs.laws.clients_see_no_groups.Goals as goal

pub returns : goal.returns
returns c = clients_see
