use Rattle.std.proofs.Common.{◌+◌, ◌-◌, ◌<◌, ◌∙◌, ◌≡◌, ap, arith, length, min, sym, take}
use Rattle.std.specs.Prelude.{replicate}
use Rattle.mmc_card.specs.Sectors.{part_number}
use Rattle.mmc_card_rows.specs.Store.{part_of, parts_of, split, values_of}
use Rattle.mmc_card_rows.proofs.StoreLemmas.{number_below, split_values}
use Rattle.mmc_card_rows.proofs.store.Store.land.Goals as goal
use Rattle.sparse_sectors.specs.SectorLists.{with_values}

pub returns-clause-sectors : goal.returns-clause-sectors
unfolding parts_of values_of
returns-clause-sectors c =
    let store = c.args.self.now in
    let all = store.sectors in
    let blank = replicate 512 store.erased_byte in
    let p = part_number c.args.part in
    let start = c.min-start.result in
    let k = c.min-count.result in
    let e = c.min-erased.result in
    let at = c.first_of.result + start in
    let known : p < length store.sizes = omega (arith, number_below c.args.part) in
    let size = c.size-size.ensures.size in
    let twice : c.put_all.new.self
    ≡ with_values (with_values all at (replicate e blank)) (at + e) (take (k - e) store.blocks.items) =
    rw (c.fill.ensures, c.deref.ensures.value) at c.put_all.ensures in
    c.drop_values.ensures.sectors ∙ ap (split store.sizes) twice
    ∙ split_values store.sizes all store.blocks.items blank store.erased_count p store.start start k e at known
    (sym store.whole)
    (c.min-start.ensures ∙ ap (min store.start) size)
    (c.min-count.ensures ∙ ap (λ n. min c.count.result (n - start)) size
    ∙ ap (λ n. min n (length (part_of store c.args.part) - start)) c.count.ensures.count)
    c.min-erased.ensures (ap (λ n. n + start) c.first_of.ensures.first)
