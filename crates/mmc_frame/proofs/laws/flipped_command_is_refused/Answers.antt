use Rattle.mmc_frame.proofs.FlippedFrames.{short_law, command_taken}
use Rattle.mmc_frame.proofs.laws.flipped_command_is_refused.Goals as goal

pub returns : goal.returns
returns c = short_law _ _ command_taken command_taken
