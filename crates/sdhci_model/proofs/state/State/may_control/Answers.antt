use Rattle.std.proofs.Common.{refl}
use Rattle.sdhci_model.proofs.state.State.may_control.Goals as goal

pub returns : goal.returns
returns c outcome =
    rw (c.both-4.ensures, c.both-3.ensures, c.both-2.ensures, c.both.ensures, c.is_idle.ensures outcome, c.is_settled.ensures outcome, c.is_able.ensures, c.is_selected.ensures) refl
