use Rattle.std.proofs.Common.{refl}
use Rattle.mmc_bus.proofs.WorkLemmas.{command_worked}
use Rattle.mmc_recovery.proofs.OrderLemmas.{has_shown}
use Rattle.mmc_recovery.proofs.order.show_status.Goals as goal

pub returns-in-Ok-clause-works : goal.returns-in-Ok-clause-works
returns-in-Ok-clause-works g c kept =
    let asked = c.in-Ok.ensures.asked in
    let step = (asked.exchanged.kept kept).step in
    let law = c.cmd13_tells_the_status.ensures _ _ _ _ step.facts in
    command_worked asked refl refl kept (λ ok. (step.met, step.passes, has_shown _ _ (law.sound c.in-Ok.status refl).1.is)) (λ same. tt)

pub returns-in-Err-clause-works : goal.returns-in-Err-clause-works
returns-in-Err-clause-works g c kept = command_worked c.in-Err.ensures.asked refl refl kept (λ ok. cc (ok)) (λ same. tt)
