use Rattle.std.proofs.Common.{arith}
use Rattle.mmc_card.specs.Sectors.{part_number}
use Rattle.mmc_card_rows.specs.Store.{parts_of}
use Rattle.mmc_card_rows.proofs.StoreLemmas.{part_fits}
use Rattle.mmc_card_rows.proofs.store.Store.settle_so_far.Goals as goal

pub overflow_add-next : goal.overflow_add-next
unfolding parts_of
overflow_add-next c =
    let store = c.args.self.now in
    let fits = part_fits store.sizes store.sectors (part_number c.args.part) store.whole in
    omega (arith, fits, store.few, c.count.ensures.count, c.requires)
