use Rattle.mmc_sdhci.proofs.Losing.{lost_all, none_lost}
use Rattle.mmc_sdhci.proofs.ending.lose_rest.Goals as goal

pub returns-then-not-is_left-clause-lost : goal.returns-then-not-is_left-clause-lost
returns-then-not-is_left-clause-lost g c kept = (kept, none_lost (g.R.Registers.view c.args.registers.now))

pub returns-clause-lost : goal.returns-clause-lost
returns-clause-lost g c =
    lost_all c.a_step_keeps_what_a_card_is_made_with.ensures.read c.a_step_keeps_what_a_card_is_made_with.ensures.write
    c.a_step_narrows_what_sectors_may_hold.ensures.read c.a_step_narrows_what_sectors_may_hold.ensures.write
    c.a_step_of_a_run_leaves_the_card_standing.ensures.read c.a_step_of_a_run_leaves_the_card_standing.ensures.write
    c.a_step_counts_few_faults.ensures.read c.a_step_counts_few_faults.ensures.write
    (g.R.Registers.view c.args.registers.now) (g.R.Registers.view c.lose_all.new.registers) c.requires.rest c.lose_all.ensures.lost
