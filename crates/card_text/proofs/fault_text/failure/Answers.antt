use Rattle.std.proofs.Common.{arith}
use Rattle.card_text.proofs.CardLineLemmas.{many_words}
use Rattle.card_text.proofs.fault_text.failure.Goals as goal

pub returns-in_default-Some-cut : goal.returns-in_default-Some-cut
returns-in_default-Some-cut c = grind (arith, many_words)
