use Rattle.std.proofs.Common.{◌∙◌, refl, sym}
use Rattle.mmc_transfer.proofs.WholeLemmas.{along_first, along_next, run_done, run_failed}
use Rattle.mmc_switch.specs.UnderWay.{broken_off}
use Rattle.mmc_transfer.proofs.whole.write_run.Goals as goal

pub loop-run-init : goal.loop-run-init
loop-run-init g c =
    along_first c.begin-run.result c.args.session (g.D.Blocks.blocks c.args.blocks.now) (g.B.Bus.view c.args.bus.now)
    c.begin-run.ensures.session (sym (c.begin-run.ensures.count ∙ c.len.ensures)) c.begin-run.ensures.running

pub loop-run-preserved : goal.loop-run-preserved
loop-run-preserved g c =
    let blocks = g.D.Blocks.blocks c.args.blocks.now in
    let e = c.in-GoesOn.ensures in
    along_next c.begin-run.result c.loop-run.run c.write_on.new.self blocks blocks _ _ _ refl refl c.loop-run.invariant
    e.nears e.kept e.same e.turned

pub returns-in-Done-clause-run : goal.returns-in-Done-clause-run
returns-in-Done-clause-run g c kept ready =
    let blocks = g.D.Blocks.blocks c.args.blocks.now in
    let b = c.begin-run.ensures in
    let e = c.in-Done.ensures in
    rw c.into_session.ensures (run_done c.begin-run.result c.loop-run.run blocks blocks _ _ _ c.args.session c.args.start _ refl b.session b.start
    b.way c.loop-run.invariant (e.kept kept) ready c.write_on.new.self.job.session c.a_card_at_rest_holds_what_it_stores.ensures
    c.loop-run.invariant.count e.same (e.turned kept))

pub returns-in-Failed-clause-run : goal.returns-in-Failed-clause-run
returns-in-Failed-clause-run g c kept ready =
    let blocks = g.D.Blocks.blocks c.args.blocks.now in
    let b = c.begin-run.ensures in
    let e = c.in-Failed.ensures in
    rw (c.break_off.ensures, c.into_session-in-Failed.ensures) (run_failed c.begin-run.result c.loop-run.run blocks blocks _ _ _ c.args.session c.args.start _ refl b.session
    b.start b.way c.loop-run.invariant (e.kept kept) ready (broken_off c.write_on.new.self.job.session c.in-Failed.cause) (e.turned kept))
