use Rattle.mmc_switch.proofs.WidenLemmas.{ok_is, sd_exchange_fails, sd_register_fails, sd_widened}
use Rattle.mmc_switch.proofs.sd.widen.Goals as goal

pub returns-in_err-told-clause-moves : goal.returns-in_err-told-clause-moves
returns-in_err-told-clause-moves g c kept =
    sd_exchange_fails c.args.found.now c.may_switch.result c.set_up.result c.from_residual.result (g.B.Bus.view c.args.bus.now)
    (g.B.Bus.view c.set_up.new.bus) c.from_residual.ensures.0 c.in_err-told.ensures.variant
    c.may_switch.ensures (c.set_up.ensures.moves kept)

pub returns-in_err-info-clause-moves : goal.returns-in_err-info-clause-moves
returns-in_err-info-clause-moves g c kept =
    sd_register_fails c.args.found.now c.may_switch.result c.set_up.result c.sd_info.result c.from_residual-in_err-info.result
    (g.B.Bus.view c.args.bus.now) (g.B.Bus.view c.set_up.new.bus) c.from_residual-in_err-info.ensures.0
    c.in_err-info.ensures.variant c.sd_info.ensures.taken (c.set_up.ensures.moves kept)

pub returns-clause-moves : goal.returns-clause-moves
returns-clause-moves g c kept =
    sd_widened c.args.found.now c.may_switch.result c.in_ok-told.told c.set_up.result c.sd_info.result c.in_ok-info.info c.opened.result
    (g.B.Bus.view c.args.bus.now) (g.B.Bus.view c.set_up.new.bus)
    (ok_is c.set_up.result c.in_ok-told.told c.in_ok-told.ensures.cases)
    c.in_ok-info.ensures.ok_part c.opened.ensures c.may_switch.ensures c.sd_info.ensures.info
    c.sd_info.ensures.rca c.sd_info.ensures.lines
    (c.set_up.ensures.moves kept)
