use Rattle.card_check.specs.Findings.{wrong_line}
use Rattle.card_check.proofs.PrintLemmas.{writes_nothing}
use Rattle.card_check.proofs.finding.put_wrong_line.Goals as goal

pub returns-in_err-line : goal.returns-in_err-line
returns-in_err-line g c =
    writes_nothing (g.W.Write.contents c.args.out.now) _
    (wrong_line c.args.file.now c.args.number c.args.found.now c.args.words.now) c.from_residual.ensures.0
