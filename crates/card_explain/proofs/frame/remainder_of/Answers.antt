use Rattle.card_explain.proofs.FrameLemmas.{check_after_zeros}
use Rattle.card_explain.proofs.frame.remainder_of.Goals as goal

pub returns : goal.returns
returns c = check_after_zeros c.args.frame.now c.with_check-register.result c.with_check-register.ensures.value
