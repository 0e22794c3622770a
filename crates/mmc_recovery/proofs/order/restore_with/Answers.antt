use Rattle.mmc_recovery.proofs.OrderLemmas.{restores_again}
use Rattle.mmc_recovery.proofs.order.restore_with.Goals as goal

pub returns-in-Err-Answer-Twice-clause-moves : goal.returns-in-Err-Answer-Twice-clause-moves
returns-in-Err-Answer-Twice-clause-moves g c kept =
    let q = c.restore-in-Err-Answer-Twice.ensures.moves kept in
    restores_again c.args.info.now _ c.restore-in-Err-Answer-Twice.result (g.B.Bus.view c.args.bus.now)
    (g.B.Bus.view c.restore.new.bus) (g.B.Bus.view c.restore-in-Err-Answer-Twice.new.bus)
    (c.in-Err-Answer-Twice.ensures.moves q.was_kept) (cc) q
