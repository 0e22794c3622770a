use Rattle.std.proofs.Common.{arith}
use Rattle.card_text.specs.Data.{repeat_of}
use Rattle.card_text.proofs.PartLemmas.{two_stars}
use Rattle.card_text.proofs.data.repeat.Goals as goal

pub returns-in_default-Some-cut : goal.returns-in_default-Some-cut
unfolding repeat_of
returns-in_default-Some-cut c = grind (arith, two_stars)
