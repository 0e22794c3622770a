use Rattle.text_out.proofs.WritingLemmas.{front_before, writes_after, writes_failed}
use Rattle.card_text.proofs.output.put_data.Goals as goal

pub returns-in_err-put : goal.returns-in_err-put
returns-in_err-put g c = writes_failed _ _ _ _ c.from_residual.ensures.0 (front_before _ _ _ _ c.in_err-put.ensures)

pub returns : goal.returns
returns g c = writes_after _ _ _ _ _ _ c.in_ok-put.ensures c.put_pieces.ensures
