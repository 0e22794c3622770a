use Rattle.mmc_frame.proofs.FlippedFrames.{long_law, register_taken}
use Rattle.mmc_frame.proofs.laws.flipped_register_is_refused.Goals as goal

pub returns : goal.returns
returns c = long_law _ _ register_taken register_taken
