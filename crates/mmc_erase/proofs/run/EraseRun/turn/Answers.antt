use Rattle.mmc_erase.proofs.TurnLemmas.{has_turned}
use Rattle.mmc_erase.proofs.run.EraseRun.turn.Goals as goal

pub returns-clause-turned : goal.returns-clause-turned
returns-clause-turned g c kept faults at =
    has_turned c.args.self.now faults _ c.step-outcome.result _ _ c.stand.ensures
    (c.step-outcome.ensures.turned kept faults at)
