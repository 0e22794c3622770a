use Rattle.std.proofs.Common.{ap, ◌∙◌}
use Rattle.card_text.specs.Parts.{left_parts}
use Rattle.card_trace.proofs.LineLemmas.{said_all, said_step}
use Rattle.card_trace.proofs.lines.put_lines.Goals as goal

pub loop-rest-preserved : goal.loop-rest-preserved
loop-rest-preserved c =
    said_step _ _ _ _ _ _ _ _ _ _ c.read_exchange-exchange.ensures c.loop-rest.invariant
    (ap (left_parts 10) c.in-Some.is ∙ c.cut.ensures) c.in_ok-put_said.ensures c.after-reading.ensures

pub returns : goal.returns
returns c = said_all _ _ _ _ _ c.in_default.not-Some c.loop-rest.invariant
