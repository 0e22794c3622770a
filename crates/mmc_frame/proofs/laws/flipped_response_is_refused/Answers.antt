use Rattle.mmc_frame.specs.ResponseFields.{r6_fields, r7_fields}
use Rattle.mmc_frame.proofs.FlippedFrames.{short_law, response_taken, read_as_taken}
use Rattle.mmc_frame.proofs.laws.flipped_response_is_refused.Goals as goal

pub returns-clause-r1 : goal.returns-clause-r1
returns-clause-r1 c = λ index other. short_law _ _ (response_taken index) (response_taken other)

pub returns-clause-r6 : goal.returns-clause-r6
returns-clause-r6 c = short_law _ _ (read_as_taken r6_fields 3) (read_as_taken r6_fields 3)

pub returns-clause-r7 : goal.returns-clause-r7
returns-clause-r7 c = short_law _ _ (read_as_taken r7_fields 8) (read_as_taken r7_fields 8)
