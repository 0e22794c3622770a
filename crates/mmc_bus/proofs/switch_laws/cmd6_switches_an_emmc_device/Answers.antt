use Rattle.std.proofs.Common.{refl}
use Rattle.mmc_bus.proofs.CommandLemmas.{switches}
use Rattle.mmc_bus.proofs.switch_laws.cmd6_switches_an_emmc_device.Goals as goal

pub returns : goal.returns
returns c = λ old new argument heard switched_card facts kind none is.
    switches switched_card old argument heard new facts (rw kind refl) none kind is
