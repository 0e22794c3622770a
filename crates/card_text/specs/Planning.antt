-- The faults that are planned for the exchanges of a card, before its first one.
use Rattle.std.specs.Prelude.{◌-◌, ◌<◌, ◌==◌, ◌^◌, ◌≤◌, ℕ, List, length, map}
use Rattle.std.specs.List.{All, IsDistinct}
use Rattle.mmc_card_sim.specs.declared.fault.Fault.{Fault}
use Rattle.mmc_card_sim.specs.declared.plan.TheConstants.{MAX_PLANNED}

-- a fault, and the exchange for which it is planned
abbrev pub PlannedFault : Type 0
PlannedFault = ℕ × Fault

-- a card takes them all: they are few, for different exchanges, and none for the number at which the count stays
pub record CanBePlanned (plan : List PlannedFault) : Type 0 where
  pub few : length plan ≤ MAX_PLANNED
  pub different : IsDistinct (λ e e'. e == e') (map (λ p. p.0) plan)
  pub early : All (λ p. p.0 < 2 ^ 64 - 1) plan
