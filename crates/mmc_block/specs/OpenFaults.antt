-- What a round that failed says of the card.
use Rattle.mmc_identify.specs.declared.fault.IdentFault.TheVariants.{Locked, Mismatch, NoAnswer, Register, Voltage}
use Rattle.mmc_switch.specs.declared.fault.SwitchFault.TheVariants as Switch
use Rattle.mmc_switch.specs.declared.initialization.InitializationFault.{InitializationFault}
use Rattle.mmc_switch.specs.declared.initialization.InitializationFault.TheVariants.{Identification, Widening}
use Rattle.mmc_block.specs.declared.open_fault.OpenFault.{OpenFault}
use Rattle.mmc_block.specs.declared.open_fault.OpenFault.TheVariants as Open

abbrev pub of_initialization : InitializationFault → OpenFault
of_initialization (Identification NoAnswer) = Open.NoCard
of_initialization (Identification Voltage) = Open.Voltage
of_initialization (Identification Register) = Open.Unsupported
of_initialization (Identification Mismatch) = Open.Unsupported
of_initialization (Identification Locked) = Open.Locked
of_initialization (Widening Switch.Exchange) = Open.NoCard
of_initialization (Widening Switch.Register) = Open.Unsupported
