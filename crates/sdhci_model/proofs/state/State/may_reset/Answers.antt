use Rattle.std.proofs.Common.{refl}
use Rattle.sdhci_model.proofs.state.State.may_reset.Goals as goal

pub returns : goal.returns
returns c outcome = rw (c.either-2.ensures, c.either.ensures, c.both-2.ensures, c.both-is_off.ensures, c.both.ensures, c.is_at_rest.ensures outcome, c.is_idle.ensures outcome) refl
