use Rattle.std.proofs.Common.{◌<◌, arith, length, sym}
use Rattle.mmc_card.specs.Sectors.{part_number}
use Rattle.mmc_card_rows.specs.Store.{parts_of}
use Rattle.mmc_card_rows.proofs.StoreLemmas.{place_within, split_part_length}
use Rattle.mmc_card_rows.proofs.store.Store.first_of.Goals as goal

pub returns-clause-within : goal.returns-clause-within
unfolding parts_of
returns-clause-within c =
    let store = c.args.self.now in
    let known : part_number c.args.part < length store.sizes = omega arith in
    let size = split_part_length store.sizes store.sectors (part_number c.args.part) known (sym store.whole) in
    let within = place_within store.sizes (part_number c.args.part) in
    rw (c.total.ensures, c.part_number.ensures.number) (omega (arith, size, within))
