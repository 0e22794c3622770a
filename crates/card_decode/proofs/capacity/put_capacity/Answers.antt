use Rattle.text_out.proofs.WritingLemmas.{front_before, writes_after, writes_failed}
use Rattle.card_decode.specs.Capacities.{binary_text, capacity_text, sectors_text}
use Rattle.card_decode.proofs.capacity.put_capacity.Goals as goal

pub returns-in_err-put_sectors : goal.returns-in_err-put_sectors
unfolding capacity_text
returns-in_err-put_sectors g c =
    writes_failed _ _ c.from_residual.result _ c.from_residual.ensures.0
    (front_before _ _ (sectors_text c.args.sectors) (binary_text c.args.sectors) c.in_err-put_sectors.ensures)

pub returns : goal.returns
unfolding capacity_text
returns g c =
    writes_after _ _ _ c.put_binary.result (sectors_text c.args.sectors) (binary_text c.args.sectors)
    c.in_ok-put_sectors.ensures c.put_binary.ensures
