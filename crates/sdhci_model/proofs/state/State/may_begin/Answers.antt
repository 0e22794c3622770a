use Rattle.std.proofs.Common.{refl}
use Rattle.sdhci_model.proofs.state.State.may_begin.Goals as goal

pub returns : goal.returns
returns c outcome = rw (c.both-3.ensures, c.both-2.ensures, c.both.ensures, c.is_at_rest.ensures outcome, c.is_clean.ensures outcome, c.is_set.ensures outcome, c.is_asked.ensures outcome) refl
