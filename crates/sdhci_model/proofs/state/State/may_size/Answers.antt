use Rattle.std.proofs.Common.{refl}
use Rattle.sdhci_model.proofs.state.State.may_size.Goals as goal

pub returns : goal.returns
returns c outcome = rw (c.both.ensures, c.is_idle.ensures outcome, c.boundary.ensures) refl
