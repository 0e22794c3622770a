-- A turn of a run, from its exchange.
use Rattle.std.proofs.Common.{refl, ℕ}
use Rattle.std.specs.Prelude.{Option, Result}
use Rattle.mmc_card.specs.BusView.{BusView}
use Rattle.mmc_card.specs.Card.{Card, NoAddress}
use Rattle.mmc_bus.specs.declared.cause.Cause.{Cause}
use Rattle.mmc_switch.proofs.TurnLemmas.{turn_leaves}
use Rattle.mmc_switch.proofs.UnderWayLemmas.{begins, quiet_by}
use Rattle.mmc_switch.specs.Place.{IsReady}
use Rattle.mmc_switch.specs.UnderWay.{IsCarriedOut, IsUnderWay}
use Rattle.mmc_switch.specs.declared.session.Session.{Session}
use Rattle.mmc_switch.specs.declared.progress.Progress.{Progress}
use Rattle.mmc_erase.specs.Run.{HasProgressed, HasTurned, IsRunning}
use Rattle.mmc_erase.specs.Running.{IsHolding, IsIn, Turned, change_of}
use Rattle.mmc_erase.specs.declared.phase.Phase.{Phase}
use Rattle.mmc_erase.specs.declared.run.EraseRun.{EraseRun}

-- What an exchange leaves is what its turn leaves.
pub has_turned : (run : EraseRun) (faults : ℕ) (old : BusView) (outcome : Result (Option Phase) Cause)
    (result : Progress EraseRun) (new : BusView) → HasProgressed run.job outcome result
    → Turned run.job faults old outcome new → HasTurned run faults old result new
has_turned run faults old outcome result new makes t =
    turn_leaves run.job.session (change_of run.job) (IsIn run.job) IsRunning (IsCarriedOut (change_of run.job)) _
    (λ phase next faults view is at. rw (is.0, is.1) at) outcome result makes faults old new t

-- A run begins with a card that is ready.
pub begins_run : (session : Session) (view : BusView) → IsReady session view
    → IsUnderWay session (λ (card : Card). Unit {0}) (IsHolding NoAddress) 0 view
begins_run session view r =
    begins session (λ card. Unit {0}) (IsHolding NoAddress) view r (record {
      idle = record {
        quiet = quiet_by r.set.rest.state r.set.rest.app r.set.rest.command_errors r.set.rest.errors r.set.rest.switch_error r.set.rest.count refl;
        rests = r.set.rest.rests;
      };
      erase = r.set.rest.erase;
    })
