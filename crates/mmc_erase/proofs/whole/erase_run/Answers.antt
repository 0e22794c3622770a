use Rattle.mmc_erase.proofs.WholeLemmas.{along_first, along_next, run_done, run_failed}
use Rattle.mmc_switch.specs.UnderWay.{broken_off}
use Rattle.mmc_erase.proofs.whole.erase_run.Goals as goal

pub loop-run-init : goal.loop-run-init
loop-run-init g c =
    along_first c.begin-run.result c.args.session (g.B.Bus.view c.args.bus.now) c.begin-run.ensures.session
    c.begin-run.ensures.running

pub loop-run-preserved : goal.loop-run-preserved
loop-run-preserved g c =
    let e = c.in-GoesOn.ensures in
    along_next c.begin-run.result c.loop-run.run c.turn.new.self _ _ _ c.loop-run.invariant e.bounded e.kept e.same
    e.lowers e.turned

pub returns-in-Done-clause-run : goal.returns-in-Done-clause-run
returns-in-Done-clause-run g c kept ready =
    let b = c.begin-run.ensures in
    let e = c.in-Done.ensures in
    rw c.into_session.ensures (run_done c.begin-run.result c.loop-run.run _ _ _ c.args.session c.args.start c.args.count b.session b.start b.count
    c.loop-run.invariant (e.kept kept) ready c.turn.new.self.job.session c.a_card_at_rest_holds_what_it_stores.ensures e.same
    (e.turned kept))

pub returns-in-Failed-clause-run : goal.returns-in-Failed-clause-run
returns-in-Failed-clause-run g c kept ready =
    let b = c.begin-run.ensures in
    let e = c.in-Failed.ensures in
    rw (c.break_off.ensures, c.into_session-in-Failed.ensures) (run_failed c.begin-run.result c.loop-run.run _ _ _ c.args.session c.args.start c.args.count b.session b.start b.count
    c.loop-run.invariant (e.kept kept) ready (broken_off c.turn.new.self.job.session c.in-Failed.cause) (e.turned kept))
