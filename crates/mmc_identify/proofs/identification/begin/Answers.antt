use Rattle.mmc_identify.proofs.JoinLemmas.{begun, probe_fails, reset_on_lines}
use Rattle.mmc_identify.proofs.identification.begin.Goals as goal

pub returns-in_err-hcs-clause-moves : goal.returns-in_err-hcs-clause-moves
returns-in_err-hcs-clause-moves g c kept =
    let q = c.in_err-hcs.ensures.moves kept in
    let p = reset_on_lines (g.B.Bus.view c.args.bus.now) (g.B.Bus.view c.go_idle.new.bus)
    (g.B.Bus.view c.set_lines.new.self) _ c.set_lines.ensures c.go_idle.ensures.moves q.was_kept in
    probe_fails c.in_err-hcs.field-0.0 c.from_residual.result (g.B.Bus.view c.args.bus.now)
    (g.B.Bus.view c.set_lines.new.self) (g.B.Bus.view c.probe.new.bus) c.from_residual.ensures.0 p q

pub returns-clause-moves : goal.returns-clause-moves
returns-clause-moves g c kept =
    let s = c.start.ensures.moves kept in
    let q = c.in_ok-hcs.ensures.moves s.was_kept in
    let p = reset_on_lines (g.B.Bus.view c.args.bus.now) (g.B.Bus.view c.go_idle.new.bus)
    (g.B.Bus.view c.set_lines.new.self) _ c.set_lines.ensures c.go_idle.ensures.moves q.was_kept in
    begun c.in_ok-hcs.hcs c.start.result (g.B.Bus.view c.args.bus.now) (g.B.Bus.view c.set_lines.new.self)
    (g.B.Bus.view c.probe.new.bus) (g.B.Bus.view c.start.new.bus) p q s
