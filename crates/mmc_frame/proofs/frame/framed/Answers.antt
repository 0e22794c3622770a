use Rattle.mmc_frame.proofs.Frames.{made_sound}
use Rattle.mmc_frame.proofs.frame.framed.Goals as goal

pub returns-clause-sound : goal.returns-clause-sound
returns-clause-sound c = made_sound _ _ _ _ _ _ c.check_of-check.ensures.small c.check_of-check.ensures.value
