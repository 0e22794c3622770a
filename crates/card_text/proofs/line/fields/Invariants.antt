use Rattle.std.proofs.Common.{◌≡◌, ◌++◌, length, map}
use Rattle.card_text.specs.Parts.{left_parts, parts}
use Rattle.card_text.proofs.line.fields.Given as goal

abbrev pub invariant-loop-rest : goal.invariant-loop-rest
invariant-loop-rest l = map (λ f. f.now) l.fields.items ++ left_parts 32 l.rest ≡ parts 32 l.fn.line

abbrev pub decreases-loop-rest : goal.decreases-loop-rest
decreases-loop-rest l = length (left_parts 32 l.rest)
