use Rattle.std.proofs.Common.{refl}
use Rattle.sdhci_model.proofs.state.State.can_move.Goals as goal

pub returns : goal.returns
returns c outcome = rw (c.both.ensures, c.is_lent_for.ensures outcome, c.is_dma_set.ensures outcome) refl
