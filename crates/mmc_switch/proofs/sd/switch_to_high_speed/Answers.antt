use Rattle.std.proofs.Common.{refl}
use Rattle.mmc_switch.proofs.SdLemmas.{not_switched, switch_fails, switched}
use Rattle.mmc_switch.proofs.sd.switch_to_high_speed.Goals as goal

pub returns-in_err-switch_func-clause-moves : goal.returns-in_err-switch_func-clause-moves
returns-in_err-switch_func-clause-moves g c kept =
    switch_fails c.args.width c.in_err-switch_func.field-0.0 c.from_residual.result (g.B.Bus.view c.args.bus.now)
    (g.B.Bus.view c.switch_func.new.bus) c.from_residual.ensures.0 (c.in_err-switch_func.ensures.moves kept)

pub returns-then-is_high_speed-clause-moves : goal.returns-then-is_high_speed-clause-moves
returns-then-is_high_speed-clause-moves g c kept =
    switched c.args.width c.in_ok-switch_func.field-0 (g.B.Bus.view c.args.bus.now)
    (g.B.Bus.view c.switch_func.new.bus) (g.B.Bus.view c.set_lines.new.self) (c.if-is_high_speed.ensures.0 refl)
    c.in_ok-switch_func.ensures.moves
    c.set_lines.ensures kept

pub returns-else-is_high_speed-clause-moves : goal.returns-else-is_high_speed-clause-moves
returns-else-is_high_speed-clause-moves g c kept =
    not_switched c.args.width c.in_ok-switch_func.field-0 (g.B.Bus.view c.args.bus.now)
    (g.B.Bus.view c.switch_func.new.bus) (λ selects. cc (c.if-is_high_speed.ensures.1 selects))
    (c.in_ok-switch_func.ensures.moves kept)
