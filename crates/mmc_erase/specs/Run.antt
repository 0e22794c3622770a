-- What contracts see of a run.
use Rattle.std.specs.Prelude.{◌≡◌, Option, Result, ℕ}
use Rattle.mmc_card.specs.BusView.{BusView}
use Rattle.mmc_bus.specs.declared.cause.Cause.{Cause}
use Rattle.mmc_switch.specs.Turns.{Leaves, LowersBy, Makes, StaysFor, progress_of}
use Rattle.mmc_switch.specs.UnderWay.{IsCarriedOut, Turn}
use Rattle.mmc_switch.specs.declared.progress.Progress.{Progress}
use Rattle.mmc_switch.specs.declared.progress.Standing.{Standing}
use Rattle.mmc_erase.specs.Fits.{phase_left}
use Rattle.mmc_erase.specs.Running.{IsIn, change_of}
use Rattle.mmc_erase.specs.declared.job.Job.{Job}
use Rattle.mmc_erase.specs.declared.phase.Phase.{Phase}
use Rattle.mmc_erase.specs.declared.run.EraseRun.{EraseRun}

-- how many exchanges it may still take
abbrev pub exchanges_left : EraseRun → ℕ
exchanges_left run = phase_left run.phase

-- how it stands after a turn, which is this then
abbrev pub run_then : EraseRun → Standing → Progress EraseRun
run_then run standing = progress_of run.job.session run standing

-- It is under way, after so many faults in its turns.
abbrev pub IsRunning : EraseRun → ℕ → BusView → Type 0
IsRunning run faults view = IsIn run.job run.phase faults view

-- The run stays for the same sectors of the same session.
abbrev pub IsSameRun : EraseRun → Progress EraseRun → Type 0
IsSameRun run result = StaysFor (λ next. next.job ≡ run.job) run.job.session result

-- each turn brings it nearer to its end, which was still to come
abbrev pub Lowers : EraseRun → Progress EraseRun → Type 0
Lowers run result = LowersBy exchanges_left run result

-- What a turn leaves: the run goes on; it is done, its sectors hold the erased byte alone, and the card is ready; or it has
-- failed, and a fault fell in it.
abbrev pub HasLeft : EraseRun → Progress EraseRun → ℕ → BusView → Type 0
HasLeft run result faults view = Leaves IsRunning (IsCarriedOut (change_of run.job)) result faults view

-- A turn of a run. Each sector that it names is as before or erased, and no other sector has changed.
abbrev pub HasTurned : EraseRun → ℕ → BusView → Progress EraseRun → BusView → Type 0
HasTurned run faults old result new = Turn (change_of run.job) (HasLeft run result) faults old new

-- what an exchange makes of a run
abbrev pub HasProgressed : Job → Result (Option Phase) Cause → Progress EraseRun → Type 0
HasProgressed job outcome result =
    Makes job.session (λ phase run. (run.job ≡ job) × (run.phase ≡ phase)) outcome result
