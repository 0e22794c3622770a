use Rattle.std.proofs.Common.{refl}
use Rattle.mmc_bus.proofs.WorkLemmas.{command_worked}
use Rattle.mmc_recovery.proofs.order.stop.Goals as goal

pub returns-in-Ok-clause-works : goal.returns-in-Ok-clause-works
returns-in-Ok-clause-works g c kept = command_worked c.in-Ok.ensures.asked refl refl kept tt (λ same. tt)

pub returns-in-Err-clause-works : goal.returns-in-Err-clause-works
returns-in-Err-clause-works g c kept = command_worked c.in-Err.ensures.asked refl refl kept tt (λ same. tt)
