use Rattle.text_out.proofs.WritingLemmas.{front_before, writes_after, writes_failed}
use Rattle.card_decode.specs.Summaries.{check_text, csd_text, summary_text}
use Rattle.card_decode.proofs.summary.put_summary.Goals as goal

pub returns-in_err-put_csd-in-Csd : goal.returns-in_err-put_csd-in-Csd
unfolding summary_text
returns-in_err-put_csd-in-Csd g c =
    rw c.in-Csd.is (writes_failed _ _ c.from_residual.result _ c.from_residual.ensures.0
    (front_before _ _ (csd_text c.in-Csd.kind c.args.bytes.now) (check_text c.args.bytes.now)
    c.in_err-put_csd-in-Csd.ensures))

pub returns-in_ok-put_csd-in-Csd : goal.returns-in_ok-put_csd-in-Csd
unfolding summary_text
returns-in_ok-put_csd-in-Csd g c =
    rw c.in-Csd.is (writes_after _ _ _ c.put_check.result (csd_text c.in-Csd.kind c.args.bytes.now)
    (check_text c.args.bytes.now) c.in_ok-put_csd-in-Csd.ensures c.put_check.ensures)
