use Rattle.std.proofs.Common.{◌∙◌, sym}
use Rattle.mmc_recovery.proofs.SettleLemmas.{resets_fell, resets_stays, resets_then, restored_ready}
use Rattle.mmc_recovery.proofs.settling.settle_with.Goals as goal

pub returns-then-must_reset-clause-stays : goal.returns-then-must_reset-clause-stays
returns-then-must_reset-clause-stays g c kept =
    resets_stays c.args.broken c.reset.result (g.B.Bus.view c.args.bus.now) (g.B.Bus.view c.reset.new.bus)
    (c.reset.ensures.moves kept)

pub returns-then-must_reset-clause-refused : goal.returns-then-must_reset-clause-refused
returns-then-must_reset-clause-refused g c kept is_broken profile err =
    resets_fell c.args.broken c.reset.result (g.B.Bus.view c.args.bus.now) (g.B.Bus.view c.reset.new.bus)
    (c.reset.ensures.moves kept) is_broken.knows profile err

pub returns-in-Ok-clause-settled : goal.returns-in-Ok-clause-settled
returns-in-Ok-clause-settled g c kept is_broken =
    restored_ready c.args.broken c.into_session.result c.info.result.now (g.B.Bus.view c.args.bus.now)
    (g.B.Bus.view c.restore_with.new.bus) (sym c.must_reset.ensures ∙ c.if-must_reset.false) c.info.ensures
    c.into_session.ensures.session (c.in-Ok.ensures.moves kept) is_broken

pub returns-in-Err-clause-stays : goal.returns-in-Err-clause-stays
returns-in-Err-clause-stays g c kept =
    let start = g.B.Bus.view c.args.bus.now in
    let end = g.B.Bus.view c.reset-in-Err.new.bus in
    let broken = c.args.broken in
    let q = c.reset-in-Err.ensures.moves kept in
    resets_stays broken c.reset-in-Err.result start end
    (resets_then broken c.reset-in-Err.result start (g.B.Bus.view c.restore_with.new.bus) end
    (c.in-Err.ensures.moves q.was_kept) q)

pub returns-in-Err-clause-settled : goal.returns-in-Err-clause-settled
returns-in-Err-clause-settled g c kept is_broken =
    let q = c.reset-in-Err.ensures.moves kept in
    let p = resets_then c.args.broken c.reset-in-Err.result (g.B.Bus.view c.args.bus.now)
    (g.B.Bus.view c.restore_with.new.bus) (g.B.Bus.view c.reset-in-Err.new.bus) (c.in-Err.ensures.moves q.was_kept) q in
    p.own is_broken.knows

pub returns-in-Err-clause-refused : goal.returns-in-Err-clause-refused
returns-in-Err-clause-refused g c kept is_broken profile err =
    let start = g.B.Bus.view c.args.bus.now in
    let end = g.B.Bus.view c.reset-in-Err.new.bus in
    let broken = c.args.broken in
    let q = c.reset-in-Err.ensures.moves kept in
    resets_fell broken c.reset-in-Err.result start end
    (resets_then broken c.reset-in-Err.result start (g.B.Bus.view c.restore_with.new.bus) end
    (c.in-Err.ensures.moves q.was_kept) q)
    is_broken.knows profile err
