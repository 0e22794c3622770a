use Rattle.std.proofs.Common.{length, ◌++◌, ◌≡◌}
use Rattle.card_text.specs.Parts.{left_parts}
use Rattle.card_text.specs.Script.{lines}
use Rattle.card_json.specs.Fields.{fields_text}
use Rattle.card_json.proofs.field.put_lines.Given as goal

-- with the objects of the lines that are left it will be all
abbrev pub invariant-loop-rest : goal.invariant-loop-rest
invariant-loop-rest l = l.fn.out.items ++ fields_text (lines l.fn.text) ≡ l.out.items ++ fields_text (left_parts 10 l.rest)

abbrev pub decreases-loop-rest : goal.decreases-loop-rest
decreases-loop-rest l = length (left_parts 10 l.rest)
