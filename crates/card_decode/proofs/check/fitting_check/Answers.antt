use Rattle.card_decode.proofs.SummaryLemmas.{last_byte}
use Rattle.card_decode.proofs.check.fitting_check.Goals as goal

pub returns : goal.returns
returns c = last_byte c.args.bytes.now c.fitting_register.result c.requires c.fitting_register.ensures
