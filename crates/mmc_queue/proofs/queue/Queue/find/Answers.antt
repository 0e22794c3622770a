use Rattle.mmc_queue.proofs.FindLemmas.{found}
use Rattle.mmc_queue.proofs.queue.Queue.find.Goals as goal

pub lower_at-best-requires : goal.lower_at-best-requires
lower_at-best-requires c = tt

pub returns : goal.returns
returns c =
    let extent = c.args.extent.now in
    found extent c.args.self.now c.lower_at.result c.lower_at.ensures.ascend c.lower_at.ensures.may
    (λ t s may. c.lower_at.ensures.not_above t (c.lower_at-best.ensures.lowest t s may)) c.lower_at.ensures.lowest
