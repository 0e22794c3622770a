use Rattle.std.proofs.Common.{refl}
use Rattle.std.specs.Prelude.{Ok}
use Rattle.mmc_recovery.proofs.OrderLemmas.{puts_in_order, restores_none_then}
use Rattle.mmc_recovery.proofs.order.put_in_order.Goals as goal

pub returns-in_err-show_status-clause-moves : goal.returns-in_err-show_status-clause-moves
returns-in_err-show_status-clause-moves g c kept =
    let q = c.show_status.ensures.works kept in
    restores_none_then c.args.info.now (Ok tt) c.from_residual-in_err-show_status.result (g.B.Bus.view c.args.bus.now)
    (g.B.Bus.view c.set_block_length.new.bus) (g.B.Bus.view c.show_status.new.bus) refl
    c.from_residual-in_err-show_status.ensures.0 c.set_block_length.ensures.lines
    (c.in_ok-set_block_length.ensures.moves q.was_kept) q

pub returns-clause-moves : goal.returns-clause-moves
returns-clause-moves g c kept =
    let r = c.confirm.ensures.works kept in
    let q = c.in_ok-show_status.ensures.works r.was_kept in
    puts_in_order c.args.info.now c.args.info.now.kind (Ok tt) (Ok c.in_ok-show_status.field-0) c.confirm.result
    (g.B.Bus.view c.args.bus.now) (g.B.Bus.view c.set_block_length.new.bus) (g.B.Bus.view c.show_status.new.bus)
    (g.B.Bus.view c.confirm.new.bus) refl refl c.set_block_length.ensures.lines
    (c.in_ok-set_block_length.ensures.moves q.was_kept) q r
