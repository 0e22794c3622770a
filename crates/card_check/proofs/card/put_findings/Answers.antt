use Rattle.std.proofs.Common.{◌∙◌, ap, map, subst}
use Rattle.std.specs.List.{flat_map}
use Rattle.text_out.specs.Writing.{Writes}
use Rattle.card_text.specs.Script.{lines}
use Rattle.card_check.specs.WrongLines.{findings_text, shown, wrong_text}
use Rattle.card_check.proofs.PrintLemmas.{writes_nothing}
use Rattle.card_check.proofs.card.put_findings.Goals as goal

pub returns-in_err-found : goal.returns-in_err-found
returns-in_err-found g c =
    writes_nothing (g.W.Write.contents c.args.out.now) _ (findings_text (lines c.args.text.now)) c.from_residual.ensures.0

pub returns : goal.returns
returns g c =
    subst (λ ws. Writes (g.W.Write.contents c.args.out.now) (g.W.Write.contents c.put_found.new.out) c.put_found.result
    (flat_map wrong_text ws)) (ap (map shown) c.as_slice.ensures.value ∙ c.in_ok-found.ensures) c.put_found.ensures
