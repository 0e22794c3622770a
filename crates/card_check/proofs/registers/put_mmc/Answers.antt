use Rattle.mmc_card_sim.specs.CardSpec.{has_access_mode, has_erase_unit}
use Rattle.card_check.specs.Registers.{mode_line, unit_line}
use Rattle.card_check.proofs.UnlessLemmas.{both_written, first_failed}
use Rattle.card_check.proofs.registers.put_mmc.Goals as goal

pub returns-in_err-put_unless : goal.returns-in_err-put_unless
returns-in_err-put_unless g c =
    let old = g.W.Write.contents c.args.out.now in
    let new = g.W.Write.contents c.put_unless.new.out in
    let second = has_erase_unit c.args.ext_csd.now in
    first_failed old old new c.from_residual.result c.has_access_mode.result (has_access_mode c.args.ocr) second second mode_line unit_line
    c.from_residual.ensures.0 c.has_access_mode.ensures c.in_err-put_unless.ensures

pub returns : goal.returns
returns g c =
    let old = g.W.Write.contents c.args.out.now in
    let mid = g.W.Write.contents c.put_unless.new.out in
    let new = g.W.Write.contents c.put_unless-2.new.out in
    both_written old mid new c.put_unless-2.result c.has_access_mode.result (has_access_mode c.args.ocr) c.has_erase_unit.result (has_erase_unit c.args.ext_csd.now)
    mode_line unit_line c.has_access_mode.ensures c.has_erase_unit.ensures c.in_ok-put_unless.ensures c.put_unless-2.ensures
