use Rattle.std.proofs.Common.{arith, refl}
use Rattle.mmc_card_rows.proofs.chip.Chip.erase_between.Goals as goal

pub returns : goal.returns
returns c =
    rw (← c.if-not-has_range.ensures.named, c.status-status.ensures, ← c.is_trim.ensures)
    (c.erase_range.ensures, refl, omega arith)
