use Rattle.mmc_transfer.proofs.GiveLemmas.{give_ends, give_fails}
use Rattle.mmc_transfer.proofs.moves.give.Goals as goal

pub returns-in_err-offer-clause-turned : goal.returns-in_err-offer-clause-turned
returns-in_err-offer-clause-turned g c kept faults at =
    give_fails c.args.job.now (g.D.Blocks.blocks c.args.blocks.now) c.args.done faults c.block.result.now
    c.requires.way c.requires.more c.requires.count c.block.ensures (g.B.Bus.view c.args.bus.now)
    (g.B.Bus.view c.offer.new.bus) at c.in_err-offer.field-0.0 c.from_residual.result c.from_residual.ensures.0
    (c.in_err-offer.ensures.works kept)

pub returns-clause-turned : goal.returns-clause-turned
returns-clause-turned g c kept faults at =
    give_ends c.args.job.now (g.D.Blocks.blocks c.args.blocks.now) c.args.done faults c.block.result.now
    c.requires.way c.requires.more c.requires.count c.block.ensures (g.B.Bus.view c.args.bus.now)
    (g.B.Bus.view c.offer.new.bus) at c.after_written.result c.after_written.ensures
    (c.in_ok-offer.ensures.works kept)
