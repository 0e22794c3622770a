use Rattle.std.proofs.Common.{arith}
use Rattle.card_text.proofs.CardLineLemmas.{no_lone_word}
use Rattle.card_text.proofs.fault_text.lone_word.Goals as goal

pub returns-in_default-Some : goal.returns-in_default-Some
returns-in_default-Some c = grind (arith, no_lone_word)
