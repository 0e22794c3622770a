use Rattle.std.proofs.Common.{◌<◌, ◌∙◌, ap, arith, get_or, length, take}
use Rattle.std.proofs.lemmas.Bool.{ne_eqb}
use Rattle.std.proofs.lemmas.List.{take_more}
use Rattle.mmc_card_sim.specs.Plan.{fault_at}
use Rattle.mmc_card_sim.specs.declared.fault.Fault.TheVariants.{LoseCommand}
use Rattle.mmc_card_sim.specs.declared.plan.Planned.{Planned}
use Rattle.mmc_card_sim.proofs.PlanLemmas.{none_more}
use Rattle.mmc_card_sim.proofs.plan.Plan.place_of.Goals as goal

pub loop-i-preserved : goal.loop-i-preserved
loop-i-preserved c =
    let plan = c.self.inside.planned.items in
    let i = c.loop-i.i in
    let default : Planned = record { exchange = 0; fault = LoseCommand } in
    let less : i < length plan = omega (arith, c.loop-i-test.true, c.len-i-end.ensures.value) in
    ap (λ xs. fault_at xs c.args.exchange) (take_more plan i default less)
    ∙ none_more (take i plan) (get_or plan i default) c.args.exchange c.loop-i.invariant
    (ne_eqb (get_or plan i default).exchange c.args.exchange (rw c.deref.ensures.0 at c.if-deref-i.false))
