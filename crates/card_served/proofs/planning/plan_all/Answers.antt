use Rattle.std.proofs.Common.{arith}
use Rattle.card_served.proofs.PlanningLemmas.{planned_more, planned_none}
use Rattle.card_served.proofs.planning.plan_all.Goals as goal

pub loop-exchange-init : goal.loop-exchange-init
loop-exchange-init c = planned_none c.args.card.now c.args.plan.now c.requires.unplanned

pub loop-exchange-preserved : goal.loop-exchange-preserved
loop-exchange-preserved c =
    let e = c.plan-planned.ensures in
    planned_more c.args.card.now c.args.plan.now c.loop-exchange.exchange-index c.loop-exchange.card
    c.plan-planned.new.self c.plan-planned.result c.requires.planned c.requires.unused.exchanges
    c.loop-exchange-test.true c.loop-exchange.invariant
    _ (record { refused = e.refused; replaced = e.replaced; grows = e.grows; stays = e.stays })

pub returns-clause-planned : goal.returns-clause-planned
returns-clause-planned c = λ k d less.
    c.loop-exchange.invariant.planned k d (omega (arith, less, c.loop-exchange-test.false))

pub returns-clause-no_others : goal.returns-clause-no_others
returns-clause-no_others c =
    omega (arith, c.loop-exchange.invariant.few, c.loop-exchange.auto.exchange-index-end)

pub returns-clause-stays : goal.returns-clause-stays
returns-clause-stays c = c.loop-exchange.invariant.stays
