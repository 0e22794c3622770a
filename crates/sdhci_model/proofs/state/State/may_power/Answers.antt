use Rattle.std.proofs.Common.{refl}
use Rattle.sdhci_model.proofs.state.State.may_power.Goals as goal

pub returns : goal.returns
returns c outcome = rw (c.both.ensures, c.either.ensures, c.is_idle.ensures outcome) refl
