use Rattle.std.proofs.Common.{◌+◌, ◌<◌, ◌∙◌, ap, length, subst, sym}
use Rattle.std.specs.Prelude.{◌-◌, [], slice_index_or}
use Rattle.mmc_bus.specs.Bytes.{blocks_in}
use Rattle.mmc_queue.specs.Lent.{held_by}
use Rattle.mmc_queue.specs.LentLaws.{first_below}
use Rattle.mmc_queue.specs.declared.entry.Entry.{Entry}
use Rattle.mmc_queue.proofs.LentLemmas.{place_below, place_gives}
use Rattle.mmc_queue.proofs.group.Group.block_held.Goals as goal

pub member-requires : goal.member-requires
member-requires c =
    first_below c.args.held c.args.self.now.members.items (c.args.self.now.extent.start + c.args.i) c.place-k.result.0 c.place-k.ensures.0

pub block-requires : goal.block-requires
block-requires c =
    subst (λ (e : Entry). c.place-k.result.1 < length (blocks_in (held_by c.args.held e))) (sym c.member.ensures)
    (place_below c.args.held c.args.self.now.members.items (c.args.self.now.extent.start + c.args.i) c.place-k.result.0 c.place-k.result.1 c.place-k.ensures)

pub returns : goal.returns
returns c =
    let extent = c.args.self.now.extent in
    c.block.ensures
    ∙ ap (λ (e : Entry). slice_index_or (blocks_in (held_by c.args.held e)) c.place-k.result.1 []) c.member.ensures
    ∙ place_gives c.args.held c.args.self.now.members.items extent.start (extent.end - extent.start) c.args.i c.place-k.result.0 c.place-k.result.1 c.requires
    c.place-k.ensures
