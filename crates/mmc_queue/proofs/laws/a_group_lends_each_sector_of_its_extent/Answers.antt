use Rattle.mmc_queue.proofs.CountLemmas.{reads_lend_all, writes_lend_all}
use Rattle.mmc_queue.proofs.laws.a_group_lends_each_sector_of_its_extent.Goals as goal

pub returns : goal.returns
returns c = record { reads = reads_lend_all; writes = writes_lend_all }
