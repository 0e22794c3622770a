use Rattle.std.proofs.Common.{refl}
use Rattle.sdhci_model.proofs.state.State.may_clock.Goals as goal

pub returns : goal.returns
returns c outcome = rw (c.both-2.ensures, c.both.ensures, c.is_idle.ensures outcome, c.is_settled.ensures outcome, c.is_clock.ensures outcome) refl
