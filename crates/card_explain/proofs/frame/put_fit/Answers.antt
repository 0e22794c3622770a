use Rattle.card_explain.specs.Frames.{fit_text}
use Rattle.card_explain.proofs.frame.put_fit.Goals as goal

pub returns : goal.returns
unfolding fit_text
returns c = rw c.right_check.ensures at c.put_check.ensures
