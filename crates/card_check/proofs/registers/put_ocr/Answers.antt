use Rattle.mmc_card_sim.specs.CardSpec.{has_no_ready_bit, works_at_3_3_volts}
use Rattle.card_check.specs.Registers.{ready_line, window_line}
use Rattle.card_check.proofs.UnlessLemmas.{both_written, first_failed}
use Rattle.card_check.proofs.registers.put_ocr.Goals as goal

pub returns-in_err-put_unless : goal.returns-in_err-put_unless
returns-in_err-put_unless g c =
    let old = g.W.Write.contents c.args.out.now in
    let new = g.W.Write.contents c.put_unless.new.out in
    let second = has_no_ready_bit c.args.ocr in
    first_failed old old new c.from_residual.result c.works_at_3_3_volts.result (works_at_3_3_volts c.args.ocr) second second window_line ready_line
    c.from_residual.ensures.0 c.works_at_3_3_volts.ensures c.in_err-put_unless.ensures

pub returns : goal.returns
returns g c =
    let old = g.W.Write.contents c.args.out.now in
    let mid = g.W.Write.contents c.put_unless.new.out in
    let new = g.W.Write.contents c.put_unless-2.new.out in
    both_written old mid new c.put_unless-2.result c.works_at_3_3_volts.result (works_at_3_3_volts c.args.ocr) c.has_no_ready_bit.result (has_no_ready_bit c.args.ocr)
    window_line ready_line c.works_at_3_3_volts.ensures c.has_no_ready_bit.ensures c.in_ok-put_unless.ensures c.put_unless-2.ensures
