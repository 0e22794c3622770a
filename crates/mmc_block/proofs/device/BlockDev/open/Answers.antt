use Rattle.std.specs.Prelude.{Err}
use Rattle.mmc_block.proofs.OpenLemmas.{opens_agreed, opens_known, opens_stays}
use Rattle.mmc_block.proofs.device.BlockDev.open.Goals as goal

pub returns-in-Ok-clause-info : goal.returns-in-Ok-clause-info
returns-in-Ok-clause-info g c kept =
    opens_known c.in-Ok.session c.lasting.result c.info.result.now _ _ c.lasting.ensures c.info.ensures
    (c.in-Ok.ensures.moves kept)

pub returns-in-Ok-clause-machine : goal.returns-in-Ok-clause-machine
returns-in-Ok-clause-machine g c kept counted is =
    rw c.new.ensures (opens_agreed g.B.Bus.view c.open_card.new.bus c.lasting.result c.in-Ok.session c.new-in-Ok.result counted
    (c.in-Ok.ensures.moves kept).own.ready is)

pub returns-in-Err-clause-stays : goal.returns-in-Err-clause-stays
returns-in-Err-clause-stays g c kept =
    opens_stays (Err c.in-Err.fault) (g.B.Bus.view c.args.bus) (g.B.Bus.view c.open_card.new.bus) (c.in-Err.ensures.moves kept)
