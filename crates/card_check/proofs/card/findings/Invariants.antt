use Rattle.std.proofs.Common.{◌+◌, length, map}
use Rattle.card_text.specs.Parts.{left_parts}
use Rattle.card_text.specs.Script.{lines}
use Rattle.card_check.proofs.WrongLineLemmas.{Judged}
use Rattle.card_check.specs.WrongLines.{shown}
use Rattle.card_check.proofs.card.findings.Given as goal

abbrev pub invariant-loop-rest : goal.invariant-loop-rest
invariant-loop-rest l =
    Judged l.kind (lines l.fn.text) (left_parts 10 l.rest) (length l.fn.text + 1) l.number l.good.items
    (map shown l.found.items)

abbrev pub decreases-loop-rest : goal.decreases-loop-rest
decreases-loop-rest l = length (left_parts 10 l.rest)
