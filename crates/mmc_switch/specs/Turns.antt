-- Work in phases, each an exchange: what an exchange makes of it, and what a turn leaves.
use Rattle.std.specs.Prelude.{◌<◌, ◌≡◌, Err, None, Ok, Option, Result, Some, ℕ}
use Rattle.mmc_card.specs.BusView.{BusView}
use Rattle.mmc_card.specs.Card.{Card}
use Rattle.mmc_bus.specs.declared.cause.Cause.{Cause}
use Rattle.mmc_switch.specs.Place.{IsReady}
use Rattle.mmc_switch.specs.UnderWay.{HasFailed, broken_off}
use Rattle.mmc_switch.specs.declared.progress.Progress.{Progress}
use Rattle.mmc_switch.specs.declared.progress.Progress.TheVariants.{Done, Failed, More}
use Rattle.mmc_switch.specs.declared.progress.Standing.{Standing}
use Rattle.mmc_switch.specs.declared.progress.Standing.TheVariants as standing
use Rattle.mmc_switch.specs.declared.session.Session.{Session}

-- what an exchange makes of work for this session: it goes on in the phase after it, or it is done, or it has failed
abbrev pub Makes : {P R : Type 0} → Session → (P → R → Type 0) → Result (Option P) Cause → Progress R → Type 0
Makes session IsNext (Ok (Some phase)) (More run) = IsNext phase run
Makes session IsNext (Ok None) (Done same) = same ≡ session
Makes session IsNext (Err cause) (Failed broken) = broken ≡ broken_off session cause
Makes session IsNext _ _ = ⊥

-- The work stays the same, for the same session.
abbrev pub StaysFor : {R : Type 0} → (R → Type 0) → Session → Progress R → Type 0
StaysFor IsSame session (More next) = IsSame next
StaysFor IsSame session (Done same) = same ≡ session
StaysFor IsSame session (Failed broken) = broken ≡ broken_off session broken.cause

-- how work for this session stands, which is this now
abbrev pub progress_of : {R : Type 0} → Session → R → Standing → Progress R
progress_of session run standing.GoesOn = More run
progress_of session run standing.Done = Done session
progress_of session run (standing.Failed cause) = Failed (broken_off session cause)

-- the exchanges that are left after one; once the work is over there is no phase
abbrev pub left_after : {P : Type 0} → (P → ℕ) → Option P → ℕ
left_after left (Some phase) = left phase
left_after left None = 0

-- each turn brings work nearer to its end, which was still to come
abbrev pub LowersBy : {R : Type 0} → (R → ℕ) → R → Progress R → Type 0
LowersBy left run (More next) = left next < left run
LowersBy left run _ = 0 < left run

-- What a turn leaves, by the phase after it: the card is where that phase says, or it is ready and the work done, or the
-- work has failed.
abbrev pub LeftIn : {P : Type 0} → Session → (P → ℕ → BusView → Type 0) → (Card → Type 0) → Result (Option P) Cause → ℕ
    → BusView → Type 0
LeftIn session IsIn IsDone (Ok (Some phase)) faults view = IsIn phase faults view
LeftIn session IsIn IsDone (Ok None) faults view = IsReady session view × IsDone view.card
LeftIn session IsIn IsDone (Err cause) faults view = HasFailed (broken_off session cause) faults view

-- the same, by what it makes of the work
abbrev pub Leaves : {R : Type 0} → (R → ℕ → BusView → Type 0) → (Card → Type 0) → Progress R → ℕ → BusView → Type 0
Leaves IsRunning IsDone (More next) faults view = IsRunning next faults view
Leaves IsRunning IsDone (Done session) faults view = IsReady session view × IsDone view.card
Leaves IsRunning IsDone (Failed broken) faults view = HasFailed broken faults view
