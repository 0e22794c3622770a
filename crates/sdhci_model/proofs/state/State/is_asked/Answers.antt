use Rattle.std.proofs.Common.{refl}
use Rattle.sdhci_model.proofs.state.State.is_asked.Goals as goal

pub returns : goal.returns
returns c outcome =
    rw (c.both-2.ensures, c.both.ensures, c.is_counted.ensures, c.either-is_movable.ensures, c.is_by_port.ensures, c.can_move.ensures outcome, c.data_asked.ensures, c.is_plain.ensures) refl
