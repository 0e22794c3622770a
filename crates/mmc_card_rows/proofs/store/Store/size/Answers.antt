use Rattle.std.proofs.Common.{◌<◌, ◌∙◌, ap, arith, length, slice_index_or, sym}
use Rattle.mmc_card.specs.Sectors.{part_number}
use Rattle.mmc_card_rows.specs.Store.{parts_of}
use Rattle.mmc_card_rows.proofs.StoreLemmas.{split_part_length}
use Rattle.mmc_card_rows.proofs.store.Store.size.Goals as goal

pub returns-clause-size : goal.returns-clause-size
unfolding parts_of
returns-clause-size c =
    let store = c.args.self.now in
    let known : part_number c.args.part < length store.sizes = omega arith in
    ap (λ p. slice_index_or store.sizes p 0) c.part_number.ensures.number
    ∙ sym (split_part_length store.sizes store.sectors (part_number c.args.part) known (sym store.whole))
