use Rattle.std.proofs.Common.{sym}
use Rattle.mmc_record.proofs.NoteLemmas.{each_part}
use Rattle.mmc_record.proofs.reading.sizes_of.Goals as goal

pub returns-clause-sizes : goal.returns-clause-sizes
returns-clause-sizes c =
    let boot = sym c.existing_sectors-2.ensures in
    each_part _ (sym c.existing_sectors.ensures) boot boot (sym c.existing_sectors-3.ensures)
    (sym c.existing_sectors-4.ensures) (sym c.existing_sectors-5.ensures) (sym c.existing_sectors-6.ensures)
