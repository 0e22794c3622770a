use Rattle.mmc_switch.proofs.SwitchLemmas.{set_groups}
use Rattle.mmc_switch.proofs.mmc.use_erase_groups.Goals as goal

pub returns-clause-moves : goal.returns-clause-moves
returns-clause-moves g c kept =
    set_groups c.args.rca c.write_byte.result c.switch.result (g.B.Bus.view c.args.bus.now)
    (g.B.Bus.view c.switch.new.bus) c.write_byte.ensures (c.switch.ensures.done kept)
