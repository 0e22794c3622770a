use Rattle.std.proofs.Common.{◌∙◌, ap}
use Rattle.card_text.specs.Script.{lines}
use Rattle.card_check.specs.Missing.{is_sd}
use Rattle.card_check.proofs.CheckLemmas.{broken_findings, broken_missing}
use Rattle.card_check.proofs.PrintLemmas.{on_err}
use Rattle.card_check.proofs.card.check_card.Goals as goal

pub returns-in_err-put_findings-clause-err : goal.returns-in_err-put_findings-clause-err
returns-in_err-put_findings-clause-err g c =
    let old = g.W.Write.contents c.args.out.now in
    let new = g.W.Write.contents c.put_findings.new.out in
    on_err c.from_residual.result _ (broken_findings (lines c.args.text.now) old old new c.in_err-put_findings.ensures)

pub returns-in_err-put_missing-in-Err-Incomplete-clause-err : goal.returns-in_err-put_missing-in-Err-Incomplete-clause-err
returns-in_err-put_missing-in-Err-Incomplete-clause-err g c =
    on_err c.from_residual-in_err-put_missing-in-Err-Incomplete.result _
    (broken_missing (lines c.args.text.now) (g.W.Write.contents c.args.out.now)
    (g.W.Write.contents c.put_findings.new.out) (g.W.Write.contents c.put_missing.new.out) c.is_sd.result
    (c.is_sd.ensures ∙ ap is_sd c.kind_given.ensures) c.in_ok-put_findings.ensures
    c.in_err-put_missing-in-Err-Incomplete.ensures)
