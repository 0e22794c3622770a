use Rattle.text_out.proofs.WritingLemmas.{writes_failed, front_before, writes_after}
use Rattle.card_wave.proofs.LabelLemmas.{label_lines}
use Rattle.card_wave.proofs.labels.put_labels.Goals as goal

pub returns-in_err-put_between : goal.returns-in_err-put_between
returns-in_err-put_between g c =
    rw (label_lines c.args.clock c.args.number c.args.phase)
    (writes_failed _ _ _ _ c.from_residual.ensures.0 (front_before _ _ _ _ c.in_err-put_between.ensures))

pub returns-in_err-put_between-2 : goal.returns-in_err-put_between-2
returns-in_err-put_between-2 g c =
    rw (label_lines c.args.clock c.args.number c.args.phase)
    (writes_after _ _ _ _ _ _ c.in_ok-put_between.ensures
    (writes_failed _ _ _ _ c.from_residual-in_err-put_between-2.ensures.0
    (front_before _ _ _ _ c.in_err-put_between-2.ensures)))

pub returns : goal.returns
returns g c =
    rw (label_lines c.args.clock c.args.number c.args.phase)
    (writes_after _ _ _ _ _ _ c.in_ok-put_between.ensures
    (writes_after _ _ _ _ _ _ c.in_ok-put_between-2.ensures c.put_phase.ensures))
