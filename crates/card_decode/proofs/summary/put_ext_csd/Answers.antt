use Rattle.mmc_ext_csd.specs.ExtCsd.{sec_count}
use Rattle.text_out.proofs.WritingLemmas.{front_before, writes_after, writes_failed}
use Rattle.card_decode.specs.Capacities.{capacity_text}
use Rattle.card_decode.specs.Summaries.{partitions_text}
use Rattle.card_decode.proofs.summary.put_ext_csd.Goals as goal

pub returns-in_err-put_capacity : goal.returns-in_err-put_capacity
returns-in_err-put_capacity g c =
    let first = rw c.sectors.ensures at c.in_err-put_capacity.ensures in
    writes_failed _ _ c.from_residual.result _ c.from_residual.ensures.0
    (front_before _ _ (capacity_text (sec_count c.args.ext_csd.now)) (partitions_text c.args.ext_csd.now) first)

pub returns : goal.returns
returns g c =
    let first = rw c.sectors.ensures at c.in_ok-put_capacity.ensures in
    writes_after _ _ _ c.put_partitions.result (capacity_text (sec_count c.args.ext_csd.now))
    (partitions_text c.args.ext_csd.now) first c.put_partitions.ensures
