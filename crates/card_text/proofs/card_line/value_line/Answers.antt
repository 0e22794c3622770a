use Rattle.std.proofs.Common.{arith}
use Rattle.card_text.proofs.CardLineLemmas.{many_fields}
use Rattle.card_text.proofs.card_line.value_line.Goals as goal

pub returns-in_default-Some : goal.returns-in_default-Some
returns-in_default-Some c = grind (arith, many_fields)
