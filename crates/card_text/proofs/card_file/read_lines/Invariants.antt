use Rattle.std.proofs.Common.{length}
use Rattle.card_text.specs.Parts.{left_parts}
use Rattle.card_text.specs.Script.{lines}
use Rattle.card_text.proofs.CardFileLemmas.{CardRead}
use Rattle.card_text.proofs.card_file.read_lines.Given as goal

abbrev pub invariant-loop-rest : goal.invariant-loop-rest
invariant-loop-rest l = CardRead (lines l.fn.text) (left_parts 10 l.rest) l.fn.kind l.number l.said.items

abbrev pub decreases-loop-rest : goal.decreases-loop-rest
decreases-loop-rest l = length (left_parts 10 l.rest)
