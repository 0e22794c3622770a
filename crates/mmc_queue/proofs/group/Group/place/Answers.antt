use Rattle.std.proofs.Common.{◌∙◌, ap, arith, length, sym}
use Rattle.std.specs.Prelude.{◌-◌}
use Rattle.std.proofs.lemmas.Option.{none-some}
use Rattle.mmc_bus.specs.Bytes.{blocks_in}
use Rattle.mmc_queue.specs.Lent.{block_at, blocks_from, entry_at, held_by}
use Rattle.mmc_queue.specs.LentLaws.{few_blocks, first_below, first_has, in_place, nth_block}
use Rattle.mmc_queue.specs.Requests.{start_of}
use Rattle.mmc_queue.specs.declared.entry.Entry.{Entry}
use Rattle.std.specs.Prelude.{slice_index_or, []}
use Rattle.mmc_queue.proofs.group.Group.place.Goals as goal

pub sector-sector-requires : goal.sector-sector-requires
sector-sector-requires c =
    let extent = c.args.self.now.extent in
    let few = few_blocks c.args.held c.args.self.now.members.items extent.start (extent.end - extent.start) in
    let below = c.requires in omega (arith, few, below)

pub member-requires : goal.member-requires
member-requires c =
    first_below c.args.held c.args.self.now.members.items c.sector-sector.result c.in-Some.k c.in-Some.ensures

pub overflow_sub-result : goal.overflow_sub-result
overflow_sub-result c =
    let es = c.args.self.now.members.items in
    let sector = c.sector-sector.result in
    let e = entry_at es c.in-Some.k in
    let h = (in_place (start_of e.request) (length (blocks_in (held_by c.args.held e))) sector (first_has c.args.held es sector c.in-Some.k c.in-Some.ensures)).1 in
    let s = c.start.ensures in
    let m = ap (λ (v : Entry). start_of v.request) c.member.ensures in omega (arith, h, s, m)

pub unreachable-requires : goal.unreachable-requires
unreachable-requires c =
    let extent = c.args.self.now.extent in
    let es = c.args.self.now.members.items in
    let n = extent.end - extent.start in
    none-some (slice_index_or (blocks_from (held_by c.args.held) es extent.start n) c.args.i []) (sym c.in-None.ensures ∙ ap (block_at (held_by c.args.held) es) c.sector-sector.ensures ∙ nth_block c.args.held es extent.start n c.args.i c.requires)
