use Rattle.std.proofs.Common.{refl}
use Rattle.sdhci_model.proofs.state.State.is_adma_set.Goals as goal

pub returns : goal.returns
returns c outcome = rw (c.both.ensures, c.is_table_pointed.ensures outcome) refl
