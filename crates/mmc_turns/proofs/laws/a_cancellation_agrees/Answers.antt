use Rattle.mmc_turns.proofs.StepLemmas.{cancellation}
use Rattle.mmc_turns.proofs.laws.a_cancellation_agrees.Goals as goal

pub returns : goal.returns
returns c = cancellation
