use Rattle.std.proofs.Common.{arith}
use Rattle.mmc_card.specs.Sectors.{part_number}
use Rattle.mmc_card_rows.specs.Store.{parts_of}
use Rattle.mmc_card_rows.proofs.StoreLemmas.{part_fits}
use Rattle.mmc_card_rows.proofs.store.Store.erase.Goals as goal

pub invariant_of-self : goal.invariant_of-self
unfolding parts_of
invariant_of-self c =
    let store = c.args.self.now in
    let fits = part_fits store.sizes store.sectors (part_number c.args.part) store.whole in
    record {
      few = store.few;
      whole = store.whole;
      room = omega (arith, store.room, c.clear.ensures.capacity);
      counted = omega (arith, fits, c.requires, c.clear.ensures.len);
    }
