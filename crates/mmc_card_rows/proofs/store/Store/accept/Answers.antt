use Rattle.std.proofs.Common.{◌+◌, ◌<◌, arith, length}
use Rattle.std.proofs.lemmas.List.{length-append, length-replicate}
use Rattle.std.specs.Prelude.{replicate}
use Rattle.mmc_card.specs.Sectors.{part_number}
use Rattle.mmc_card_rows.specs.Sizes.{total}
use Rattle.mmc_card_rows.specs.Store.{part_of, parts_of, values_of}
use Rattle.mmc_card_rows.specs.declared.store.Store.{Store}
use Rattle.mmc_card.specs.declared.part.Part.{Part}
use Rattle.mmc_card_rows.proofs.StoreLemmas.{part_fits}
use Rattle.mmc_card_rows.proofs.store.Store.accept.Goals as goal

-- there is room for another block
another_fits : (store : Store) (part : Part)
    → store.start + length (values_of store) < length (part_of store part)
    → store.erased_count + store.blocks.len < total store.sizes
unfolding parts_of values_of
another_fits store part h =
    let fits = part_fits store.sizes store.sectors (part_number part) store.whole in
    let all = length-append (replicate store.erased_count (replicate 512 store.erased_byte)) store.blocks.items in
    let erased = length-replicate store.erased_count (replicate 512 store.erased_byte) in
    let blocks = store.blocks.ok.0 in
    omega (arith, fits, all, erased, blocks, h)

pub unwrap-requires : goal.unwrap-requires
unwrap-requires c =
    let store = c.args.self.now in
    let another = another_fits store c.args.part c.requires in
    c.push.ensures.succeeds (omega (arith, another, store.room))

pub invariant_of-self : goal.invariant_of-self
invariant_of-self c =
    let store = c.args.self.now in
    let another = another_fits store c.args.part c.requires in
    record {
      few = store.few;
      whole = store.whole;
      room = omega (arith, store.room, c.push.ensures.capacity);
      counted = omega (arith, another, c.push.ensures.upper_bound);
    }
