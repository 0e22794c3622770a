use Rattle.sdhci_tests.proofs.Untold.{never_kept}
use Rattle.sdhci_tests.proofs.hasty.HastyRegisters.write8.Goals as goal

pub write8-requires : goal.write8-requires
write8-requires c kept = absurd (never_kept c.args.self.now.model.engine.state.is_sound kept)
