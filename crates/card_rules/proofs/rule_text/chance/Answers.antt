use Rattle.std.proofs.Common.{arith}
use Rattle.card_rules.proofs.TextLemmas.{many_chances}
use Rattle.card_rules.proofs.rule_text.chance.Goals as goal

pub returns-in_default-Some : goal.returns-in_default-Some
returns-in_default-Some c = grind (arith, many_chances)
