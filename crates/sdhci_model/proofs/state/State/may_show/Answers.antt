use Rattle.std.proofs.Common.{refl}
use Rattle.sdhci_model.proofs.state.State.may_show.Goals as goal

pub returns : goal.returns
returns c outcome =
    rw (c.both-3.ensures, c.both-2.ensures, c.both.ensures, c.either.ensures, c.of_the_slot.ensures, c.of_the_slot-2.ensures, c.of_the_slot-3.ensures, c.is_idle.ensures outcome) refl
