use Rattle.sdhci_tests.proofs.Untold.{never_kept}
use Rattle.sdhci_tests.proofs.hasty.HastyRegisters.write32.Goals as goal

pub write32-requires : goal.write32-requires
write32-requires c kept = absurd (never_kept c.args.self.now.model.engine.state.is_sound kept)
