use Rattle.mmc_block.proofs.ClientLemmas.{clients_see_each}
use Rattle.mmc_block.proofs.laws.clients_see_each_step.Goals as goal

pub returns : goal.returns
returns c = clients_see_each
