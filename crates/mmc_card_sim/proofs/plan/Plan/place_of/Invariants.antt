use Rattle.std.proofs.Common.{◌≡◌, None, take}
use Rattle.mmc_card_sim.specs.Plan.{fault_at}
use Rattle.mmc_card_sim.proofs.plan.Plan.place_of.Given as goal

abbrev pub invariant-loop-i : goal.invariant-loop-i
invariant-loop-i l = fault_at (take l.i l.self-inside.planned.items) l.exchange ≡ None
