use Rattle.mmc_identify.proofs.JoinLemmas.{take_fails, taken}
use Rattle.mmc_identify.proofs.identification.take.Goals as goal

pub returns-in_err-polls-clause-moves : goal.returns-in_err-polls-clause-moves
returns-in_err-polls-clause-moves g c kept =
    let q = c.in_err-polls.ensures.moves kept in
    take_fails c.args.kind c.args.rca c.in_err-polls.field-0.0 c.from_residual-in_err-polls.result (g.B.Bus.view c.args.bus.now)
    (g.B.Bus.view c.select.new.bus) (g.B.Bus.view c.wait.new.bus) c.from_residual-in_err-polls.ensures.0
    (c.in_ok-select.ensures.moves q.was_kept) q

pub returns-clause-moves : goal.returns-clause-moves
returns-clause-moves g c kept =
    let s = c.confirm.ensures.moves kept in
    let q = c.in_ok-polls.ensures.moves s.was_kept in
    taken c.args.kind c.args.rca c.in_ok-polls.polls c.confirm.result (g.B.Bus.view c.args.bus.now) (g.B.Bus.view c.select.new.bus)
    (g.B.Bus.view c.wait.new.bus) (g.B.Bus.view c.confirm.new.bus) (c.in_ok-select.ensures.moves q.was_kept) q s
