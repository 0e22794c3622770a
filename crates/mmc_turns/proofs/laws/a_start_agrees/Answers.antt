use Rattle.mmc_turns.proofs.ServingLemmas.{start_agrees}
use Rattle.mmc_turns.proofs.laws.a_start_agrees.Goals as goal

pub returns : goal.returns
returns c = start_agrees c.a_group_served_at_once_is_a_start_and_a_turn.ensures.starts
