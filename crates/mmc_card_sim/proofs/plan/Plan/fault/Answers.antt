use Rattle.std.proofs.Common.{sym}
use Rattle.mmc_card_sim.specs.declared.fault.Fault.TheVariants.{LoseCommand}
use Rattle.mmc_card_sim.specs.declared.plan.Planned.{Planned}
use Rattle.mmc_card_sim.proofs.PlanLemmas.{found}
use Rattle.mmc_card_sim.proofs.plan.Plan.fault.Goals as goal

pub returns-in-Some : goal.returns-in-Some
returns-in-Some c =
    let default : Planned = record { exchange = 0; fault = LoseCommand } in
    let there = rw (← c.self.view_is) at c.in-Some.ensures.there in
    let same = rw (← c.self.view_is) at c.in-Some.ensures.same in
    rw (← c.self.view_is, c.deref.ensures.0)
    (sym (found c.self.inside.planned.items c.in-Some.i default c.args.exchange there.0 there.1 (same default)))
