use Rattle.mmc_turns.proofs.JoinedLemmas.{served_stay}
use Rattle.mmc_turns.proofs.laws.those_in_service_stay.Goals as goal

pub returns : goal.returns
returns c = served_stay
