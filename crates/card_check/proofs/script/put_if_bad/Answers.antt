use Rattle.card_text.specs.Script.{line_of}
use Rattle.card_check.specs.WrongLines.{bad_text}
use Rattle.card_check.proofs.PrintLemmas.{writes_nothing}
use Rattle.card_check.proofs.script.put_if_bad.Goals as goal

pub returns-in_err-script_line : goal.returns-in_err-script_line
returns-in_err-script_line g c =
    writes_nothing (g.W.Write.contents c.args.out.now) _
    (bad_text c.args.number c.args.line.now (line_of c.args.line.now)) c.from_residual.ensures.0
