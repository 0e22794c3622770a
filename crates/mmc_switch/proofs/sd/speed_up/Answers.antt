use Rattle.std.proofs.Common.{refl}
use Rattle.mmc_switch.proofs.SdLemmas.{check_fails, not_supported, supported}
use Rattle.mmc_switch.proofs.sd.speed_up.Goals as goal

pub returns-in_err-switch_func-clause-moves : goal.returns-in_err-switch_func-clause-moves
returns-in_err-switch_func-clause-moves g c kept =
    check_fails c.args.width c.in_err-switch_func.field-0.0 c.from_residual.result (g.B.Bus.view c.args.bus.now)
    (g.B.Bus.view c.switch_func.new.bus) c.from_residual.ensures.0 (c.in_err-switch_func.ensures.moves kept)

pub returns-then-supports_high_speed-clause-moves :
    goal.returns-then-supports_high_speed-clause-moves
returns-then-supports_high_speed-clause-moves g c kept =
    let q = c.switch_to_high_speed.ensures.moves kept in
    supported c.args.width c.in_ok-switch_func.field-0 c.switch_to_high_speed.result (g.B.Bus.view c.args.bus.now)
    (g.B.Bus.view c.switch_func.new.bus) (g.B.Bus.view c.switch_to_high_speed.new.bus)
    (c.if-supports_high_speed.ensures.0 refl) (c.in_ok-switch_func.ensures.moves q.was_kept) q

pub returns-else-supports_high_speed-clause-moves :
    goal.returns-else-supports_high_speed-clause-moves
returns-else-supports_high_speed-clause-moves g c kept =
    not_supported c.args.width c.in_ok-switch_func.field-0 (g.B.Bus.view c.args.bus.now)
    (g.B.Bus.view c.switch_func.new.bus) (c.in_ok-switch_func.ensures.moves kept)
