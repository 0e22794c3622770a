use Rattle.mmc_recovery.proofs.OrderLemmas.{stirs_then}
use Rattle.mmc_recovery.proofs.order.end_work.Goals as goal

pub returns-in_err-stop-in-Some-Data-clause-works : goal.returns-in_err-stop-in-Some-Data-clause-works
returns-in_err-stop-in-Some-Data-clause-works g c kept =
    let q = c.stop.ensures.works kept in
    stirs_then (g.B.Bus.view c.args.bus.now) (g.B.Bus.view c.show_status.new.bus) (g.B.Bus.view c.stop.new.bus)
    (c.show_status.ensures.works q.was_kept) q

pub returns-in-Some-Prg-clause-works : goal.returns-in-Some-Prg-clause-works
returns-in-Some-Prg-clause-works g c kept =
    let q = c.wait_while_busy.ensures.works kept in
    stirs_then (g.B.Bus.view c.args.bus.now) (g.B.Bus.view c.show_status.new.bus)
    (g.B.Bus.view c.wait_while_busy.new.bus) (c.show_status.ensures.works q.was_kept) q

pub returns-in_ok-stop-in-Some-Data-clause-works : goal.returns-in_ok-stop-in-Some-Data-clause-works
returns-in_ok-stop-in-Some-Data-clause-works g c kept =
    let r = c.wait_while_busy-in-Some-Data.ensures.works kept in
    let q = c.stop.ensures.works r.was_kept in
    let start = g.B.Bus.view c.args.bus.now in
    let stopped = g.B.Bus.view c.stop.new.bus in
    stirs_then start stopped (g.B.Bus.view c.wait_while_busy-in-Some-Data.new.bus)
    (stirs_then start (g.B.Bus.view c.show_status.new.bus) stopped (c.show_status.ensures.works q.was_kept) q) r
