use Rattle.mmc_block.proofs.AloneLemmas.{request_alone}
use Rattle.mmc_block.proofs.laws.a_request_alone_is_a_submission_and_a_turn.Goals as goal

pub returns : goal.returns
returns c = request_alone
