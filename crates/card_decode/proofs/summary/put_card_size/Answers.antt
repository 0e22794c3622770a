use Rattle.text_out.proofs.WritingLemmas.{front_before, writes_after, writes_failed}
use Rattle.card_decode.specs.Capacities.{capacity_text}
use Rattle.card_decode.specs.Summaries.{erase_unit_text}
use Rattle.card_decode.proofs.summary.put_card_size.Goals as goal

pub returns-in_err-put_capacity : goal.returns-in_err-put_capacity
returns-in_err-put_capacity g c =
    writes_failed _ _ c.from_residual.result _ c.from_residual.ensures.0
    (front_before _ _ (capacity_text c.args.sectors) (erase_unit_text c.args.erase_unit) c.in_err-put_capacity.ensures)

pub returns : goal.returns
returns g c =
    writes_after _ _ _ c.put_erase_unit.result (capacity_text c.args.sectors) (erase_unit_text c.args.erase_unit)
    c.in_ok-put_capacity.ensures c.put_erase_unit.ensures
