use Rattle.std.proofs.Common.{List, subst, ◌∙◌, ℕ}
use Rattle.std.specs.Io.KnownBytes.{Appends}
use Rattle.card_commands.specs.Printed.PrintsDecoded.{a_trace}
use Rattle.card_commands.proofs.decode.put_trace_text.Goals as goal

pub returns-clause-printed : goal.returns-clause-printed
returns-clause-printed g c =
    a_trace c.args.form c.args.card c.args.text.now
    (subst (λ (text : List ℕ). Appends (g.W.Write.contents c.args.out.now) (g.W.Write.contents c.put.new.out) text)
    (rw c.new-lines.ensures.items at (c.as_slice-2.ensures.value ∙ c.in_ok-put_trace.ensures))
    c.in_ok-put.ensures)
