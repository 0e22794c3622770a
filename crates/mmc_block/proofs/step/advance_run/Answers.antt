use Rattle.mmc_block.proofs.StepLemmas.{blocks_advance, blocks_turned, blocks_work, erase_advance, erase_turned, erase_work}
use Rattle.mmc_transfer.specs.Run.{run_then}
use Rattle.mmc_erase.specs.Run.{run_then as erase_then}
use Rattle.mmc_block.proofs.step.advance_run.Goals as goal

pub returns-in-Blocks-clause-did : goal.returns-in-Blocks-clause-did
returns-in-Blocks-clause-did g c kept faults at =
    let new = c.advance_blocks.new.group in
    let joined = c.advance_blocks.ensures.joined in
    blocks_work c.advance_blocks.new.run _ _ _ _ _ _
    (blocks_turned new (c.a_group_is_one_extent.ensures new.members.items new.extent joined)
    (c.a_group_lends_each_sector_of_its_extent.ensures.reads new joined)
    (λ e i is there less. c.a_group_lends_the_blocks_of_its_members.ensures.reads new e i joined is there less)
    c.args.work.now c.in-Blocks.run' c.args.group.now faults (g.B.Bus.view c.args.bus.now) (g.B.Bus.view c.advance_blocks.new.bus)
    (run_then c.advance_blocks.new.run c.advance_blocks.result) c.in-Blocks.is c.requires.of c.advance_blocks.ensures.writes
    c.advance_blocks.ensures.extent c.advance_blocks.ensures.same (λ there. c.advance_blocks.ensures.turned kept faults there) at)

pub returns-in-Erase-clause-did : goal.returns-in-Erase-clause-did
returns-in-Erase-clause-did g c kept faults at =
    let here = c.args.group.now in
    let joined = c.requires.joined in
    erase_work c.turn.new.self _ _ _ _ _ _
    (erase_turned here (c.a_group_is_one_extent.ensures here.members.items here.extent joined)
    (c.a_group_lends_each_sector_of_its_extent.ensures.reads here joined)
    (λ e i is there less. c.a_group_lends_the_blocks_of_its_members.ensures.reads here e i joined is there less)
    c.args.work.now c.in-Erase.run' faults (g.B.Bus.view c.args.bus.now) (g.B.Bus.view c.turn.new.bus)
    (erase_then c.turn.new.self c.turn.result) c.in-Erase.is c.requires.of
    (λ there. c.turn.ensures.turned kept faults there) at)

pub returns-in-Blocks-clause-advances : goal.returns-in-Blocks-clause-advances
returns-in-Blocks-clause-advances g c =
    let e = c.advance_blocks.ensures in
    let of = rw c.in-Blocks.is at c.requires.of in
    rw c.in-Blocks.is (blocks_advance c.args.pace c.in-Blocks.run' c.advance_blocks.new.run c.advance_blocks.result c.args.group.now
    c.advance_blocks.new.group _ _ of e.lent e.extent e.joined e.bounded e.nears e.kept e.same e.lowers e.cause)

pub returns-in-Erase-clause-advances : goal.returns-in-Erase-clause-advances
returns-in-Erase-clause-advances g c =
    let e = c.turn.ensures in
    let of = rw c.in-Erase.is at c.requires.of in
    rw c.in-Erase.is (erase_advance c.args.pace c.in-Erase.run' c.turn.new.self c.turn.result c.args.group.now _ _ of
    c.requires.joined e.bounded e.kept e.same e.lowers e.cause)
