use Rattle.mmc_block.proofs.ChangeLemmas.{group_changes}
use Rattle.mmc_block.proofs.laws.a_group_changes_what_its_members_do.Goals as goal

pub returns : goal.returns
returns c info group joined =
    group_changes info group (c.a_group_is_one_extent.ensures group.members.items group.extent joined)
    (c.a_group_lends_each_sector_of_its_extent.ensures.writes group joined)
    (λ e i is at less. c.a_group_lends_the_blocks_of_its_members.ensures.writes group e i joined is at less)
