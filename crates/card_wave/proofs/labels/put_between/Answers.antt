use Rattle.text_out.proofs.WritingLemmas.{front_before, writes_failed, writes_after}
use Rattle.card_wave.proofs.labels.put_between.Goals as goal

pub returns-in_err-put_bytes : goal.returns-in_err-put_bytes
returns-in_err-put_bytes g c = writes_failed _ _ _ _ c.from_residual.ensures.0 (front_before _ _ _ _ c.in_err-put_bytes.ensures)

pub returns-in_err-put_number : goal.returns-in_err-put_number
returns-in_err-put_number g c =
    writes_after _ _ _ _ _ _ c.in_ok-put_bytes.ensures
    (writes_failed _ _ _ _ c.from_residual-in_err-put_number.ensures.0 (front_before _ _ _ _ c.in_err-put_number.ensures))

pub returns : goal.returns
returns g c =
    writes_after _ _ _ _ _ _ c.in_ok-put_bytes.ensures
    (writes_after _ _ _ _ _ _ c.in_ok-put_number.ensures c.put_bytes-2.ensures)
