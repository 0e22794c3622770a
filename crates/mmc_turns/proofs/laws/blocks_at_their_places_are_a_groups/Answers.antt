use Rattle.mmc_queue.specs.Lent.{blocks_of, write_blocks_of}
use Rattle.mmc_turns.specs.Serving.{bytes_of_each, room_of_each}
use Rattle.mmc_turns.proofs.BlockLemmas.{blocks_are_theirs}
use Rattle.mmc_turns.proofs.laws.blocks_at_their_places_are_a_groups.Goals as goal

pub returns : goal.returns
returns c = record {
  reads = λ group blocks joined is long theirs.
      blocks_are_theirs room_of_each group (blocks_of group) blocks (c.a_group_is_one_extent.ensures group.members.items group.extent joined)
      (c.a_group_lends_each_sector_of_its_extent.ensures.reads group joined is)
      (λ e i at less. c.a_group_lends_the_blocks_of_its_members.ensures.reads group e i joined is at less) long theirs;
  writes = λ group blocks joined is long theirs.
      blocks_are_theirs bytes_of_each group (write_blocks_of group) blocks (c.a_group_is_one_extent.ensures group.members.items group.extent joined)
      (c.a_group_lends_each_sector_of_its_extent.ensures.writes group joined is)
      (λ e i at less. c.a_group_lends_the_blocks_of_its_members.ensures.writes group e i joined is at less) long theirs;
}
