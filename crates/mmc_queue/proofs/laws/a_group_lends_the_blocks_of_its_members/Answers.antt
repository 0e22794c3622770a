use Rattle.mmc_queue.proofs.MemberLemmas.{reads_own, writes_own}
use Rattle.mmc_queue.proofs.laws.a_group_lends_the_blocks_of_its_members.Goals as goal

pub returns : goal.returns
returns c = record { reads = reads_own; writes = writes_own }
