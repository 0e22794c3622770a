use Rattle.mmc_block.proofs.ClientLemmas.{clients_see_alone}
use Rattle.mmc_block.proofs.laws.clients_see_a_request_alone.Goals as goal

pub returns : goal.returns
returns c = clients_see_alone
