use Rattle.mmc_transfer.proofs.TurnLemmas.{has_turned}
use Rattle.mmc_transfer.proofs.run.Run.write_turn.Goals as goal

pub returns-in-Block-clause-turned : goal.returns-in-Block-clause-turned
returns-in-Block-clause-turned g c kept faults at =
    has_turned c.args.self.now (g.D.Blocks.blocks c.args.blocks.now) faults _ c.give-outcome.result _ _
    c.stand.ensures (c.give-outcome.ensures.turned kept faults (rw c.in-Block.is at at))

pub returns-in-Other-clause-turned : goal.returns-in-Other-clause-turned
returns-in-Other-clause-turned g c kept faults at =
    let blocks = g.D.Blocks.blocks c.args.blocks.now in
    has_turned c.args.self.now blocks faults _ c.step-outcome.result _ _
    c.stand-in-Other.ensures (c.step-outcome.ensures.turned kept blocks faults c.requires.count (rw c.in-Other.is at at))
