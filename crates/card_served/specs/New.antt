-- A card in memory before its first exchange.
use Rattle.std.specs.Prelude.{List, None, Some, ℕ, ◌≡◌, ◌≤◌, length}
use Rattle.std.specs.List.{All}
use Rattle.mmc_bus.specs.Wires.{IsUnused}
use Rattle.mmc_card.specs.Card.{Card, powered_on}
use Rattle.mmc_card_sim.specs.CardSpec.{refusal_within}
use Rattle.mmc_card_sim.specs.Plan.{fault_at}
use Rattle.mmc_card_sim.specs.Registers.{made_of}
use Rattle.mmc_card_sim.specs.SimView.{SimView, first_parts, sim_bus_view}
use Rattle.mmc_card_sim.specs.declared.spec.BuildFault.TheVariants as Refused
use Rattle.mmc_card_sim.specs.declared.spec.CardSpec.{CardSpec}
use Rattle.card_text.specs.Planning.{PlannedFault}
use Rattle.card_served.specs.declared.fault.ServeFault.{ServeFault}
use Rattle.card_served.specs.declared.fault.ServeFault.TheVariants.{ImageSize, NoMemory, Register}

-- the card of a spec, after power on
abbrev pub new_card : CardSpec → Card
new_card spec = powered_on (made_of spec.registers) (first_parts spec)

-- The card in memory is new, as its spec says, and just these faults are planned for it.
pub record IsNew (spec : CardSpec) (plan : List PlannedFault) (sim : SimView) : Type 0 where
  pub card : sim.card ≡ new_card spec
  pub unused : IsUnused (sim_bus_view sim)
  pub planned : All (λ p. fault_at sim.plan p.0 ≡ Some p.1) plan
  pub no_others : length sim.plan ≤ length plan

-- why no card of so many sectors at most is built: what its spec is refused for, or want of memory where it isn't refused
abbrev pub IsWhyUnbuilt : ℕ → CardSpec → ServeFault → Type 0
IsWhyUnbuilt limit spec Register = refusal_within limit spec ≡ Some Refused.Register
IsWhyUnbuilt limit spec ImageSize = refusal_within limit spec ≡ Some Refused.ImageSize
IsWhyUnbuilt limit spec NoMemory = refusal_within limit spec ≡ None
IsWhyUnbuilt limit spec fault = ⊥
