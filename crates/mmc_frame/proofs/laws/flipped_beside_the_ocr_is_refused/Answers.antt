use Rattle.mmc_frame.proofs.FlippedFrames.{ocr_flips}
use Rattle.mmc_frame.proofs.laws.flipped_beside_the_ocr_is_refused.Goals as goal

pub returns : goal.returns
returns c = λ ocr heard size bytes flips argument. ocr_flips ocr heard size bytes flips argument
