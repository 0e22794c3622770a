-- The phase that comes next in a run.
use Rattle.std.specs.Prelude.{◌<◌, IfOk, IfSome, IsTrue, Option, Result}
use Rattle.mmc_bus.specs.declared.cause.Cause.{Cause}
use Rattle.mmc_switch.specs.Turns.{left_after}
use Rattle.mmc_transfer.specs.Fits.{phase_fits, phase_left}
use Rattle.mmc_transfer.specs.declared.job.Job.{Job}
use Rattle.mmc_transfer.specs.declared.phase.Phase.{Phase}

-- it is a phase of the run
abbrev pub NextFits : Job → Result (Option Phase) Cause → Type 0
NextFits job outcome =
    IfOk outcome (λ next. IfSome next (λ phase. IsTrue (phase_fits job.count job.session.info.cmd23 phase)))

-- it is nearer to the end of the run than this one
abbrev pub NextIsNearer : Job → Phase → Result (Option Phase) Cause → Type 0
NextIsNearer job phase outcome =
    let left = phase_left job.count job.session.info.cmd23 in IfOk outcome (λ next. left_after left next < left phase)
