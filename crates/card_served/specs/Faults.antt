-- How faults of the crates below show.
use Rattle.mmc_block.specs.declared.open_fault.OpenFault.{OpenFault}
use Rattle.mmc_block.specs.declared.open_fault.OpenFault.TheVariants as Unopened
use Rattle.mmc_card_sim.specs.declared.spec.BuildFault.{BuildFault}
use Rattle.mmc_card_sim.specs.declared.spec.BuildFault.TheVariants as Refused
use Rattle.card_text.specs.declared.fault.CardFault.{CardFault}
use Rattle.card_text.specs.declared.fault.CardFault.TheVariants as OfCard
use Rattle.card_text.specs.declared.fault.ScriptFault.{ScriptFault}
use Rattle.card_text.specs.declared.fault.ScriptFault.TheVariants as OfScript
use Rattle.card_served.specs.declared.fault.ServeFault.{ServeFault}
use Rattle.card_served.specs.declared.fault.ServeFault.TheVariants.{CardIncomplete, CardLine, ImageSize, Locked, NoCard, NoMemory}
use Rattle.card_served.specs.declared.fault.ServeFault.TheVariants.{Register, ScriptLine, Unsupported, Voltage}

-- a card file that isn't read
abbrev pub of_card : CardFault → ServeFault
of_card (OfCard.BadLine line) = CardLine line
of_card OfCard.Incomplete = CardIncomplete
of_card OfCard.NoMemory = NoMemory

-- a script that isn't read
abbrev pub of_script : ScriptFault → ServeFault
of_script (OfScript.BadLine line) = ScriptLine line
of_script OfScript.NoMemory = NoMemory

-- a card that isn't built
abbrev pub building_fault : BuildFault → ServeFault
building_fault Refused.Register = Register
building_fault Refused.ImageSize = ImageSize
building_fault Refused.NoMemory = NoMemory

-- a card that isn't opened
abbrev pub opening_fault : OpenFault → ServeFault
opening_fault Unopened.NoMemory = NoMemory
opening_fault Unopened.NoCard = NoCard
opening_fault Unopened.Voltage = Voltage
opening_fault Unopened.Unsupported = Unsupported
opening_fault Unopened.Locked = Locked
