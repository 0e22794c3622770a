use Rattle.std.proofs.Common.{ap, ◌∙◌}
use Rattle.card_text.specs.Parts.{left_parts}
use Rattle.card_json.proofs.FieldLemmas.{no_line, one_line}
use Rattle.card_json.proofs.field.put_lines.Goals as goal

pub loop-rest-preserved : goal.loop-rest-preserved
loop-rest-preserved c =
    one_line _ _ _ _ _ _ c.loop-rest.invariant (ap (left_parts 10) c.in-Some.is ∙ c.cut.ensures) c.in_ok-put_line.ensures

pub returns : goal.returns
returns c = no_line _ _ _ c.in_default.not-Some c.loop-rest.invariant
