use Rattle.mmc_switch.proofs.SdLemmas.{announce_fails_four, bus_width_fails, four_used}
use Rattle.mmc_switch.proofs.sd.use_four_lines.Goals as goal

pub returns-in_err-announce-clause-moves : goal.returns-in_err-announce-clause-moves
returns-in_err-announce-clause-moves g c kept =
    announce_fails_four c.args.rca c.in_err-announce.field-0.0 c.from_residual.result (g.B.Bus.view c.args.bus.now)
    (g.B.Bus.view c.announce.new.bus) c.from_residual.ensures.0 (c.in_err-announce.ensures.moves kept)

pub returns-in_err-set_bus_width-clause-moves : goal.returns-in_err-set_bus_width-clause-moves
returns-in_err-set_bus_width-clause-moves g c kept =
    let q = c.in_err-set_bus_width.ensures.moves kept in
    bus_width_fails c.args.rca c.in_err-set_bus_width.field-0.0 c.from_residual-in_err-set_bus_width.result
    (g.B.Bus.view c.args.bus.now) (g.B.Bus.view c.announce.new.bus) (g.B.Bus.view c.set_bus_width.new.bus)
    c.from_residual-in_err-set_bus_width.ensures.0 (c.in_ok-announce.ensures.moves q.was_kept) q

pub returns-clause-moves : goal.returns-clause-moves
returns-clause-moves g c kept =
    four_used c.args.rca (g.B.Bus.view c.args.bus.now) (g.B.Bus.view c.announce.new.bus)
    (g.B.Bus.view c.set_bus_width.new.bus) (g.B.Bus.view c.set_lines.new.self) c.in_ok-announce.ensures.moves
    c.in_ok-set_bus_width.ensures.moves c.set_lines.ensures kept
