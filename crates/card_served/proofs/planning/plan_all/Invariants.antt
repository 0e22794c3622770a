use Rattle.card_served.proofs.PlanningLemmas.{PlannedSoFar}
use Rattle.card_served.proofs.planning.plan_all.Given as goal

abbrev pub invariant-loop-exchange : goal.invariant-loop-exchange
invariant-loop-exchange l = PlannedSoFar l.fn.card l.fn.plan l.exchange-index l.card
