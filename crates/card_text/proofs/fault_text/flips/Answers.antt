use Rattle.std.proofs.Common.{arith}
use Rattle.card_text.proofs.CardLineLemmas.{many_flips}
use Rattle.card_text.proofs.fault_text.flips.Goals as goal

pub returns-in_default-Some : goal.returns-in_default-Some
returns-in_default-Some c = grind (arith, many_flips)
