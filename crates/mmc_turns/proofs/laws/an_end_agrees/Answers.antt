use Rattle.mmc_turns.proofs.ServingLemmas.{end_agrees}
use Rattle.mmc_turns.proofs.laws.an_end_agrees.Goals as goal

pub returns : goal.returns
returns c =
    let laws = c.a_group_served_at_once_is_a_start_and_a_turn.ensures in
    end_agrees laws.answers laws.ends laws.fails laws.fails_alone c.a_group_changes_what_its_members_do.ensures
