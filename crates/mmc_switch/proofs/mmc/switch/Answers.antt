use Rattle.std.proofs.Common.{refl}
use Rattle.std.specs.Prelude.{Ok}
use Rattle.mmc_switch.proofs.SwitchLemmas.{request_fails, switches}
use Rattle.mmc_switch.proofs.mmc.switch.Goals as goal

pub returns-in_err-request-clause-done : goal.returns-in_err-request-clause-done
returns-in_err-request-clause-done g c kept =
    request_fails c.args.rca c.args.argument c.in_err-request.field-0.0 c.from_residual.result
    (g.B.Bus.view c.args.bus.now) (g.B.Bus.view c.request.new.bus) c.from_residual.ensures.0
    (c.in_err-request.ensures.done kept)

pub returns-clause-done : goal.returns-clause-done
returns-clause-done g c kept =
    let q = c.wait_and_confirm.ensures.works kept in
    switches c.args.rca c.args.argument (Ok tt) c.wait_and_confirm.result (g.B.Bus.view c.args.bus.now)
    (g.B.Bus.view c.request.new.bus) (g.B.Bus.view c.wait_and_confirm.new.bus) refl
    (c.in_ok-request.ensures.done q.was_kept) q
