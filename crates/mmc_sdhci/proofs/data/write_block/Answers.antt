use Rattle.mmc_sdhci.proofs.Blocks.{has_room, sent_off, unsent}
use Rattle.mmc_sdhci.proofs.data.write_block.Goals as goal

pub returns-then-not-find_room-clause-written : goal.returns-then-not-find_room-clause-written
returns-then-not-find_room-clause-written g c =
    unsent (g.R.Registers.view c.args.registers.now) _ c.args.block.now c.find_room.result c.find_room.ensures
    c.if-not-find_room.true

pub write_port-requires : goal.write_port-requires
write_port-requires g c =
    has_room (g.R.Registers.view c.args.registers.now) (g.R.Registers.view c.find_room.new.registers) c.args.under_way
    c.find_room.result c.requires.rest c.requires.going c.find_room.ensures c.if-not-find_room.false

pub returns-clause-written : goal.returns-clause-written
returns-clause-written g c =
    sent_off (g.R.Registers.view c.args.registers.now) (g.R.Registers.view c.find_room.new.registers)
    (g.R.Registers.view c.write_port.new.self) (g.R.Registers.view c.see_gone.new.registers) c.args.block.now
    c.find_room.result c.see_gone.result c.find_room.ensures c.if-not-find_room.false c.write_port.ensures c.see_gone.ensures
