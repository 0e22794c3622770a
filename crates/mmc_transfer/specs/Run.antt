-- What contracts see of a run.
use Rattle.std.specs.Prelude.{◌≡◌, List, Option, Result, ℕ}
use Rattle.mmc_card.specs.BusView.{BusView}
use Rattle.mmc_card.specs.Sectors.{Sector}
use Rattle.mmc_bus.specs.declared.cause.Cause.{Cause}
use Rattle.mmc_switch.specs.Turns.{Leaves, LowersBy, Makes, StaysFor, progress_of}
use Rattle.mmc_switch.specs.UnderWay.{Turn}
use Rattle.mmc_switch.specs.declared.progress.Progress.{Progress}
use Rattle.mmc_switch.specs.declared.progress.Standing.{Standing}
use Rattle.mmc_transfer.specs.Fits.{phase_left}
use Rattle.mmc_transfer.specs.Running.{HasEffect, IsIn, change_of}
use Rattle.mmc_transfer.specs.declared.job.Job.{Job}
use Rattle.mmc_transfer.specs.declared.phase.Phase.{Phase}
use Rattle.mmc_transfer.specs.declared.run.Run.{Run}

-- how many exchanges it may still take
abbrev pub exchanges_left : Run → ℕ
exchanges_left run = phase_left run.job.count run.job.session.info.cmd23 run.phase

-- how it stands after a turn, which is this then
abbrev pub run_then : Run → Standing → Progress Run
run_then run standing = progress_of run.job.session run standing

-- It is under way with these blocks, after so many faults in its turns.
abbrev pub IsRunning : Run → List Sector → ℕ → BusView → Type 0
IsRunning run blocks faults view = IsIn run.job blocks run.phase faults view

-- The run stays for the same sectors of the same session.
abbrev pub IsSameRun : Run → Progress Run → Type 0
IsSameRun run result = StaysFor (λ next. next.job ≡ run.job) run.job.session result

-- each turn brings it nearer to its end, which was still to come
abbrev pub Lowers : Run → Progress Run → Type 0
Lowers run result = LowersBy exchanges_left run result

-- What a turn leaves: the run goes on; it is done, with its whole effect, and the card is ready; or it has failed, and a
-- fault fell in it.
abbrev pub HasLeft : Run → List Sector → Progress Run → ℕ → BusView → Type 0
HasLeft run blocks result faults view =
    Leaves (λ next. IsRunning next blocks) (HasEffect run.job blocks) result faults view

-- A turn of a run. Each sector that a write names is old or new, and no other sector has changed.
abbrev pub HasTurned : Run → List Sector → ℕ → BusView → Progress Run → BusView → Type 0
HasTurned run blocks faults old result new = Turn (change_of run.job blocks) (HasLeft run blocks result) faults old new

-- what an exchange makes of a run
abbrev pub HasProgressed : Job → Result (Option Phase) Cause → Progress Run → Type 0
HasProgressed job outcome result =
    Makes job.session (λ phase run. (run.job ≡ job) × (run.phase ≡ phase)) outcome result
