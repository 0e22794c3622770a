use Rattle.mmc_bus.proofs.WorkLemmas.{done_by}
use Rattle.mmc_bus.proofs.data.receive.Goals as goal

pub returns-clause-works : goal.returns-clause-works
returns-clause-works g c kept =
    let e = c.read_block.ensures.read in
    let k = e.kept kept in
    done_by _ _ k k.step.stays (record { lines = e.lines; stands = k.step.stands }) k.step.narrows
    (λ ok. k.step.good (c.check_read.ensures.good.0 ok))
    (λ same can rests. c.check_read.ensures.good.1 (k.step.fine same can rests))
