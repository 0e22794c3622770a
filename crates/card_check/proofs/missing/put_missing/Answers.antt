use Rattle.std.proofs.Common.{◌++◌, codes}
use Rattle.text_out.proofs.WritingLemmas.{front_before, writes_after, writes_failed}
use Rattle.card_text.specs.Script.{lines}
use Rattle.card_check.specs.Missing.{missing_registers, missing_scr, missing_text}
use Rattle.card_check.specs.declared.key.Key.TheVariants.{Kind, Sectors}
use Rattle.card_check.proofs.missing.put_missing.Goals as goal

pub returns-in_err-put_if_missing : goal.returns-in_err-put_if_missing
returns-in_err-put_if_missing g c =
    let all = lines c.args.text.now in
    writes_failed _ _ _ _ c.from_residual.ensures.0
    (front_before _ _ (missing_text all (codes "kind") Kind)
    (missing_registers all ++ (missing_text all (codes "sectors") Sectors ++ missing_scr c.args.is_sd all))
    c.in_err-put_if_missing.ensures)

pub returns-in_err-put_missing_registers : goal.returns-in_err-put_missing_registers
returns-in_err-put_missing_registers g c =
    let all = lines c.args.text.now in
    writes_after _ _ _ _ (missing_text all (codes "kind") Kind) _ c.in_ok-put_if_missing.ensures
    (writes_failed _ _ _ _ c.from_residual-in_err-put_missing_registers.ensures.0
    (front_before _ _ (missing_registers all)
    (missing_text all (codes "sectors") Sectors ++ missing_scr c.args.is_sd all)
    c.in_err-put_missing_registers.ensures))

pub returns-in_err-put_if_missing-2 : goal.returns-in_err-put_if_missing-2
returns-in_err-put_if_missing-2 g c =
    let all = lines c.args.text.now in
    writes_after _ _ _ _ (missing_text all (codes "kind") Kind) _ c.in_ok-put_if_missing.ensures
    (writes_after _ _ _ _ (missing_registers all) _ c.in_ok-put_missing_registers.ensures
    (writes_failed _ _ _ _ c.from_residual-in_err-put_if_missing-2.ensures.0
    (front_before _ _ (missing_text all (codes "sectors") Sectors) (missing_scr c.args.is_sd all)
    c.in_err-put_if_missing-2.ensures)))

pub returns : goal.returns
returns g c =
    let all = lines c.args.text.now in
    writes_after _ _ _ _ (missing_text all (codes "kind") Kind) _ c.in_ok-put_if_missing.ensures
    (writes_after _ _ _ _ (missing_registers all) _ c.in_ok-put_missing_registers.ensures
    (writes_after _ _ _ _ (missing_text all (codes "sectors") Sectors) _ c.in_ok-put_if_missing-2.ensures
    c.put_missing_scr.ensures))
