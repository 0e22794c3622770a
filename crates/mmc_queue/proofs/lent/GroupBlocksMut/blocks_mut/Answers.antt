use Rattle.std.proofs.Common.{◌+◌, arith, refl}
use Rattle.mmc_queue.specs.LentLaws.{first_below}
use Rattle.mmc_queue.specs.declared.held.Held.TheVariants.{Room}
use Rattle.mmc_queue.proofs.LentLemmas.{place_below, place_written}
use Rattle.mmc_queue.proofs.lent.GroupBlocksMut.blocks_mut.Goals as goal

pub place-k-requires : goal.place-k-requires
place-k-requires c = omega (arith, c.requires.some, c.requires.inside)

pub member_bytes_mut-requires-clause-member : goal.member_bytes_mut-requires-clause-member
member_bytes_mut-requires-clause-member c =
    first_below Room c.args.self.now.members.items (c.args.self.now.extent.start + c.args.i) c.place-k.result.0 c.place-k.ensures.0

pub member_bytes_mut-requires-clause-block : goal.member_bytes_mut-requires-clause-block
member_bytes_mut-requires-clause-block c =
    place_below Room c.args.self.now.members.items (c.args.self.now.extent.start + c.args.i) c.place-k.result.0 c.place-k.result.1 c.place-k.ensures

pub returns : goal.returns
returns c =
    let extent = c.args.self.now.extent in
    let es = c.args.self.now.members.items in
    let k = c.place-k.result.0 in
    let j = c.place-k.result.1 in (
      (refl, λ left. rw (place_written es (extent.start + c.args.i) k j left c.place-k.ensures) refl),
      record { writes_back = tt; len = c.member_bytes_mut.ensures.len },
    )
