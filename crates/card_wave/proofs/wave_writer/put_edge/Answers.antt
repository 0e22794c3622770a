use Rattle.text_out.proofs.WritingLemmas.{front_before, writes_failed, writes_after}
use Rattle.card_wave.specs.WaveText.{clock_text, edge_text}
use Rattle.card_wave.proofs.wave_writer.put_edge.Goals as goal

pub returns-in_err-put_bytes : goal.returns-in_err-put_bytes
unfolding edge_text
returns-in_err-put_bytes g c = writes_failed _ _ _ _ c.from_residual.ensures.0 (front_before _ _ _ _ c.in_err-put_bytes.ensures)

pub returns-in_err-put_number : goal.returns-in_err-put_number
unfolding edge_text
returns-in_err-put_number g c =
    writes_after _ _ _ _ _ _ c.in_ok-put_bytes.ensures
    (writes_failed _ _ _ _ c.from_residual-in_err-put_number.ensures.0
    (front_before _ _ _ (clock_text c.args.level) c.in_err-put_number.ensures))

pub returns-then-level : goal.returns-then-level
unfolding edge_text
returns-then-level g c =
    rw c.if-level.true
    (writes_after _ _ _ _ _ _ c.in_ok-put_bytes.ensures
    (writes_after _ _ _ _ _ _ c.in_ok-put_number.ensures c.put_bytes-then-level.ensures))

pub returns-else-level : goal.returns-else-level
unfolding edge_text
returns-else-level g c =
    rw c.if-level.false
    (writes_after _ _ _ _ _ _ c.in_ok-put_bytes.ensures
    (writes_after _ _ _ _ _ _ c.in_ok-put_number.ensures c.put_bytes-else-level.ensures))
