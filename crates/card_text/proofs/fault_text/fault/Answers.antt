use Rattle.std.proofs.Common.{arith}
use Rattle.card_text.proofs.CardLineLemmas.{further_words}
use Rattle.card_text.proofs.fault_text.fault.Goals as goal

pub returns-in_default-Some : goal.returns-in_default-Some
returns-in_default-Some c = grind (arith, further_words)
