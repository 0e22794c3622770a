use Rattle.mmc_transfer.proofs.StepLemmas.{in_step}
use Rattle.mmc_transfer.proofs.TurnLemmas.{has_turned}
use Rattle.mmc_transfer.proofs.run.Run.read_on.Goals as goal

pub returns-in-Other-Command-clause-turned : goal.returns-in-Other-Command-clause-turned
returns-in-Other-Command-clause-turned g c kept faults at =
    let blocks = g.D.Blocks.blocks c.args.blocks.now in
    let e = rw c.in-Other-Command.is at c.in-Other-Command.field-0-is in
    has_turned c.args.self.now _ faults _ c.take_first-outcome.result _ _ c.stand.ensures
    (c.take_first-outcome.ensures.turned kept faults
    (in_step c.args.self.now.job blocks faults _ e (rw c.in-Other-Command.is at at)))
