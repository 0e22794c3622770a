use Rattle.text_out.proofs.WritingLemmas.{front_before, writes_failed, writes_after}
use Rattle.card_wave.proofs.header.put_header.Goals as goal

pub returns-in_err-put_signals : goal.returns-in_err-put_signals
returns-in_err-put_signals g c = writes_failed _ _ _ _ c.from_residual.ensures.0 (front_before _ _ _ _ c.in_err-put_signals.ensures)

pub returns-in_err-put_label_names : goal.returns-in_err-put_label_names
returns-in_err-put_label_names g c =
    writes_after _ _ _ _ _ _ c.in_ok-put_signals.ensures
    (writes_failed _ _ _ _ c.from_residual-in_err-put_label_names.ensures.0
    (front_before _ _ _ _ c.in_err-put_label_names.ensures))

pub returns : goal.returns
returns g c =
    writes_after _ _ _ _ _ _ c.in_ok-put_signals.ensures
    (writes_after _ _ _ _ _ _ c.in_ok-put_label_names.ensures c.put_start.ensures)
