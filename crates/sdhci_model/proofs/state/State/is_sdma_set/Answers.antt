use Rattle.std.proofs.Common.{refl}
use Rattle.sdhci_model.proofs.state.State.is_sdma_set.Goals as goal

pub returns : goal.returns
returns c outcome = rw (c.both-2.ensures, c.both.ensures, c.is_memory_pointed.ensures outcome, c.crosses_none.ensures, c.size.ensures.value) refl
