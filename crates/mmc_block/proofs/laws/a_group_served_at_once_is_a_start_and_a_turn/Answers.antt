use Rattle.mmc_block.proofs.TogetherLemmas.{answers_together, ends_together, fails_alone, fails_together, starts_together}
use Rattle.mmc_block.proofs.laws.a_group_served_at_once_is_a_start_and_a_turn.Goals as goal

pub returns-clause-starts : goal.returns-clause-starts
returns-clause-starts c = starts_together

pub returns-clause-ends : goal.returns-clause-ends
returns-clause-ends c = ends_together

pub returns-clause-fails : goal.returns-clause-fails
returns-clause-fails c = fails_together

pub returns-clause-fails_alone : goal.returns-clause-fails_alone
returns-clause-fails_alone c = fails_alone

pub returns-clause-answers : goal.returns-clause-answers
returns-clause-answers c info sets group joined able read =
    answers_together info sets group able (c.a_group_is_one_extent.ensures group.members.items group.extent joined)
    (c.a_group_lends_each_sector_of_its_extent.ensures.reads group joined)
    (λ e i is at less. c.a_group_lends_the_blocks_of_its_members.ensures.reads group e i joined is at less) read
