use Rattle.std.proofs.Common.{◌∙◌, ap}
use Rattle.mmc_card.specs.RowsSwitch.{write_byte}
use Rattle.mmc_switch.proofs.SwitchLemmas.{set_several, several_fail}
use Rattle.mmc_switch.proofs.mmc.use_several_lines.Goals as goal

pub returns-in_err-switch-clause-moves : goal.returns-in_err-switch-clause-moves
returns-in_err-switch-clause-moves g c kept =
    several_fail c.args.rca c.write_byte.result c.args.width c.in_err-switch.field-0.0 c.from_residual.result
    (g.B.Bus.view c.args.bus.now) (g.B.Bus.view c.switch.new.bus) c.from_residual.ensures.0 c.requires.several
    (c.write_byte.ensures ∙ ap (write_byte 183) c.bus_width.ensures) (c.in_err-switch.ensures.done kept)

pub returns-clause-moves : goal.returns-clause-moves
returns-clause-moves g c =
    set_several c.args.rca c.write_byte.result c.args.width (g.B.Bus.view c.args.bus.now)
    (g.B.Bus.view c.switch.new.bus) (g.B.Bus.view c.set_lines.new.self) c.requires.several
    (c.write_byte.ensures ∙ ap (write_byte 183) c.bus_width.ensures) c.in_ok-switch.ensures.done c.set_lines.ensures
