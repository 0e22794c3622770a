use Rattle.std.proofs.Common.{◌∙◌}
use Rattle.mmc_card.specs.RowsErase.{erasing}
use Rattle.mmc_card_rows.specs.Chip.{card_of}
use Rattle.mmc_card_rows.proofs.ChipLemmas.{with_change}
use Rattle.mmc_card_rows.proofs.chip.Chip.change_range.Goals as goal

pub returns : goal.returns
returns c =
    let change = erasing (card_of c.args.self.now) c.args.trims c.args.first c.args.last in
    let start = c.erased_from-from.ensures.from in
    let end = c.erased_to-to.ensures.to in
    with_change (card_of c.args.self.now) _ _ _ change c.erase.ensures.sectors
    (rw (← c.sector_at.ensures.sector) (c.erase.ensures.start ∙ start))
    (rw (← c.sector_at.ensures.sector, ← c.sector_at-2.ensures.sector, ← start, ← end, ← c.erased_byte-erased.ensures)
    c.erase.ensures.values)
