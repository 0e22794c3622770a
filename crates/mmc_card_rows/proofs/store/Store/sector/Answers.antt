use Rattle.std.proofs.Common.{[], ◌+◌, ◌<◌, ◌∙◌, ◌≡◌, ap, arith, length, sym, take, ℕ}
use Rattle.std.specs.Prelude.{slice_index_or}
use Rattle.mmc_card.specs.Sectors.{part_number}
use Rattle.mmc_card.specs.declared.part.Part.{Part}
use Rattle.mmc_card_rows.specs.Sizes.{total}
use Rattle.mmc_card_rows.specs.Store.{part_of, parts_of}
use Rattle.mmc_card_rows.specs.declared.store.Store.{Store}
use Rattle.mmc_card_rows.proofs.StoreLemmas.{number_below, part_at, split_part_length}
use Rattle.mmc_card_rows.proofs.store.Store.sector.Goals as goal

-- where a sector of a partition stands
stands : (store : Store) (part : Part) (first i : ℕ) → part_number part < length store.sizes
    → first ≡ total (take (part_number part) store.sizes) → i < length (part_of store part)
    → slice_index_or store.sectors (first + i) [] ≡ slice_index_or (part_of store part) i []
unfolding parts_of
stands store part first i known is_first less =
    let size = split_part_length store.sizes store.sectors (part_number part) known (sym store.whole) in
    ap (λ n. slice_index_or store.sectors (n + i) []) is_first
    ∙ part_at store.sizes store.sectors (part_number part) i known (omega (arith, size, less))

pub returns-then-sector-size : goal.returns-then-sector-size
returns-then-sector-size c =
    let store = c.args.self.now in
    let part = c.args.part in
    let i = c.args.sector in
    let known : part_number part < length store.sizes = omega (arith, number_below part) in
    let less : i < length (part_of store part) = omega (arith, c.size.ensures.size, c.if-sector-size.true) in
    let same : c.sector.result.now ≡ slice_index_or (part_of store part) i [] =
    c.sector.ensures ∙ stands store part c.first_of.result i known c.first_of.ensures.first less in
    grind (arith, same, less)
