-- A card that wasn't built.
use Rattle.std.proofs.Common.{ℕ}
use Rattle.mmc_card_sim.specs.CardSpec.{IsRefusalWithin}
use Rattle.mmc_card_sim.specs.declared.spec.BuildFault.{BuildFault}
use Rattle.mmc_card_sim.specs.declared.spec.BuildFault.TheVariants as Refused
use Rattle.mmc_card_sim.specs.declared.spec.CardSpec.{CardSpec}
use Rattle.card_served.specs.Faults.{building_fault}
use Rattle.card_served.specs.New.{IsWhyUnbuilt}

pub why_unbuilt : (limit : ℕ) (spec : CardSpec) (why : BuildFault) → IsRefusalWithin limit spec why
    → IsWhyUnbuilt limit spec (building_fault why)
why_unbuilt limit spec Refused.Register refused = refused
why_unbuilt limit spec Refused.ImageSize refused = refused
why_unbuilt limit spec Refused.NoMemory refused = refused
