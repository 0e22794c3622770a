-- Faults that are planned for exchanges.
use Rattle.std.specs.Prelude.{◌||◌, ◌+◌, ◌-◌, ◌==◌, ◌^◌, Bool, List, None, Option, Some, [], ◌∷◌, false, if◌then◌else◌}
use Rattle.std.specs.Prelude.{length, nat_le, nat_lt, ℕ}
use Rattle.mmc_card_sim.specs.declared.fault.Fault.{Fault}
use Rattle.mmc_card_sim.specs.declared.plan.Planned.{Planned}
use Rattle.mmc_card_sim.specs.declared.plan.PlanFault.{PlanFault}
use Rattle.mmc_card_sim.specs.declared.plan.PlanFault.TheVariants.{InThePast, PlanFull}
use Rattle.mmc_card_sim.specs.declared.plan.TheConstants.{MAX_PLANNED}

-- the fault that is planned for an exchange, if any
abbrev pub fault_at : List Planned → ℕ → Option Fault
fault_at [] exchange = None
fault_at (p ∷ plan) exchange = if p.exchange == exchange then Some p.fault else fault_at plan exchange

-- how many of the planned exchanges are still to come, where so many have been made
abbrev pub to_come : List Planned → ℕ → ℕ
to_come [] made = 0
to_come (p ∷ plan) made = (if nat_le made p.exchange then 1 else 0) + to_come plan made

-- as many exchanges are planned as may be, unless this one is among them
abbrev pub is_full : List Planned → Option Fault → Bool
is_full plan None = nat_le MAX_PLANNED (length plan)
is_full plan (Some fault) = false

-- the exchange has been made, or its number is the one at which their count stays
abbrev pub is_past : ℕ → ℕ → Bool
is_past exchange made = nat_lt exchange made || (exchange == 2 ^ 64 - 1)

-- why a fault isn't planned for this exchange, where so many have been made
abbrev pub refusal_of : List Planned → ℕ → ℕ → Option PlanFault
refusal_of plan exchange made =
    if is_full plan (fault_at plan exchange) then Some PlanFull
    else if is_past exchange made then Some InThePast
    else None
