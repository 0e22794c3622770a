use Rattle.mmc_queue.proofs.FairLemmas.{fair}
use Rattle.mmc_queue.proofs.laws.a_group_is_fair.Goals as goal

pub returns : goal.returns
returns c most waits members extent left limit up sound group = (fair most waits members extent left limit up sound group.grown).0
