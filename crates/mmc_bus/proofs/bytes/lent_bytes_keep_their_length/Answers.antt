use Rattle.mmc_bus.proofs.LendingLemmas.{length_kept}
use Rattle.mmc_bus.proofs.bytes.lent_bytes_keep_their_length.Goals as goal

pub returns : goal.returns
returns c = length_kept
