use Rattle.mmc_recovery.proofs.OrderLemmas.{restores}
use Rattle.mmc_recovery.proofs.order.restore.Goals as goal

pub returns-clause-moves : goal.returns-clause-moves
returns-clause-moves g c kept =
    let q = c.put_in_order.ensures.moves kept in
    restores c.args.info.now c.put_in_order.result (g.B.Bus.view c.args.bus.now) (g.B.Bus.view c.end_work.new.bus)
    (g.B.Bus.view c.put_in_order.new.bus) (c.end_work.ensures.works q.was_kept) q
