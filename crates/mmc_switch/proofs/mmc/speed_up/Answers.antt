use Rattle.mmc_switch.proofs.SwitchLemmas.{high_fails, set_high}
use Rattle.mmc_switch.proofs.mmc.speed_up.Goals as goal

pub returns-in_err-switch-clause-moves : goal.returns-in_err-switch-clause-moves
returns-in_err-switch-clause-moves g c kept =
    high_fails c.args.rca c.write_byte.result c.args.width c.in_err-switch.field-0.0 c.from_residual.result
    (g.B.Bus.view c.args.bus.now) (g.B.Bus.view c.switch.new.bus) c.from_residual.ensures.0 c.write_byte.ensures
    (c.in_err-switch.ensures.done kept)

pub returns-clause-moves : goal.returns-clause-moves
returns-clause-moves g c =
    set_high c.args.rca c.write_byte.result c.args.width (g.B.Bus.view c.args.bus.now) (g.B.Bus.view c.switch.new.bus)
    (g.B.Bus.view c.set_lines.new.self) c.write_byte.ensures c.in_ok-switch.ensures.done c.set_lines.ensures
