use Rattle.mmc_turns.proofs.StepLemmas.{submission}
use Rattle.mmc_turns.proofs.laws.a_submission_agrees.Goals as goal

pub returns : goal.returns
returns c = submission
