use Rattle.card_explain.specs.LongFrames.{register_fit_text}
use Rattle.card_explain.proofs.long_frame.put_fit.Goals as goal

pub returns : goal.returns
unfolding register_fit_text
returns c = rw c.register_check.ensures at c.put_check.ensures
