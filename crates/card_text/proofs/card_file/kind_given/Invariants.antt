use Rattle.std.proofs.Common.{◌≡◌, length}
use Rattle.card_text.specs.CardFile.{kind_in}
use Rattle.card_text.specs.Parts.{left_parts}
use Rattle.card_text.specs.Script.{lines}
use Rattle.card_text.proofs.card_file.kind_given.Given as goal

abbrev pub invariant-loop-rest : goal.invariant-loop-rest
invariant-loop-rest l = kind_in (left_parts 10 l.rest) ≡ kind_in (lines l.fn.text)

abbrev pub decreases-loop-rest : goal.decreases-loop-rest
decreases-loop-rest l = length (left_parts 10 l.rest)
