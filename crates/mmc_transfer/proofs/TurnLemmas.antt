-- A turn of a run, from its exchange.
use Rattle.std.proofs.Common.{◌&&◌, ◌≡◌, ◌≤◌, Bool, List, arith, eq-eqb, false, refl, subst, sym, true, ℕ}
use Rattle.std.specs.Prelude.{◌==◌, Option, Result, if◌then◌else◌, nat_lt}
use Rattle.std.proofs.lemmas.Bool.Decides.{nat_tests}
use Rattle.mmc_card.specs.BusView.{BusView}
use Rattle.mmc_card.specs.Sectors.{Sector}
use Rattle.mmc_bus.specs.declared.cause.Cause.{Cause}
use Rattle.mmc_switch.specs.Place.{IsReady}
use Rattle.mmc_switch.specs.declared.progress.Progress.{Progress}
use Rattle.mmc_switch.specs.declared.session.Session.{Session}
use Rattle.mmc_switch.proofs.TurnLemmas.{turn_leaves}
use Rattle.mmc_switch.proofs.UnderWayLemmas.{begins, quiet_by}
use Rattle.mmc_transfer.proofs.StepLemmas.{for_both}
use Rattle.mmc_transfer.specs.Fits.{first_of}
use Rattle.mmc_transfer.specs.Run.{HasProgressed, HasTurned, IsRunning}
use Rattle.mmc_transfer.specs.Running.{Exact, HasEffect, IsIn, Shown, Turned, change_of, preset_of}
use Rattle.mmc_switch.specs.UnderWay.{IsIdle}
use Rattle.mmc_transfer.specs.declared.job.Job.{Job}
use Rattle.mmc_transfer.specs.declared.phase.Phase.{Phase}
use Rattle.mmc_transfer.specs.declared.phase.Phase.TheVariants.{Other}
use Rattle.mmc_transfer.specs.declared.phase.Step.{Step}
use Rattle.mmc_transfer.specs.declared.phase.Step.TheVariants.{Command, Preset}
use Rattle.mmc_transfer.specs.declared.run.Run.{Run}

-- What an exchange leaves is what its turn leaves.
pub has_turned : (run : Run) (blocks : List Sector) (faults : ℕ) (old : BusView) (outcome : Result (Option Phase) Cause)
    (result : Progress Run) (new : BusView) → HasProgressed run.job outcome result
    → Turned run.job blocks faults old outcome new → HasTurned run blocks faults old result new
has_turned run blocks faults old outcome result new makes t =
    turn_leaves run.job.session (change_of run.job blocks) (IsIn run.job blocks) (λ next. IsRunning next blocks)
    (HasEffect run.job blocks) _ (λ phase next faults view is at. rw (is.0, is.1) at) outcome result makes faults old new t

-- A run begins with a card that is ready.

idle : (session : Session) (view : BusView) → IsReady session view → IsIdle 0 view.card
idle session view r = record {
  quiet = quiet_by r.set.rest.state r.set.rest.app r.set.rest.command_errors r.set.rest.errors r.set.rest.switch_error r.set.rest.count r.set.rest.erase;
  rests = r.set.rest.rests;
}

if_same : (b : Bool) (n : ℕ) → (if b then n else n) ≡ n
if_same true n = refl
if_same false n = refl

nothing_preset : (count : ℕ) (cmd23 : Bool) → 1 ≤ count → (nat_lt 1 count && cmd23) ≡ false
    → (if count == 1 then 0 else if cmd23 then count else 0) ≡ 0
nothing_preset count false some not = if_same (count == 1) 0
nothing_preset count true some not =
    let one : count ≡ 1 = grind (arith, nat_tests) in rw (eq-eqb count 1 one) refl

begins_with : (job : Job) (blocks : List Sector) (view : BusView) (both : Bool)
    → (nat_lt 1 job.count && job.session.info.cmd23) ≡ both → IsReady job.session view
    → IsIn job blocks (Other (if both then Preset else Command)) 0 view
begins_with job blocks view true is r =
    record {
      under_way = begins job.session (Shown job.way (Other Preset)) (Exact job blocks (Other Preset)) view r
          (for_both job.way (idle job.session view r));
      placed = tt;
    }
begins_with job blocks view false is r =
    let none : preset_of job ≡ 0 = nothing_preset job.count job.session.info.cmd23 job.some is in
    record {
      under_way = begins job.session (Shown job.way (Other Command)) (Exact job blocks (Other Command)) view r
          (for_both job.way (subst (λ n. IsIdle n view.card) (sym none) (idle job.session view r)));
      placed = tt;
    }

pub begins_run : (job : Job) (blocks : List Sector) (view : BusView) (first : Step)
    → first ≡ first_of job.count job.session.info.cmd23 → IsReady job.session view → IsIn job blocks (Other first) 0 view
begins_run job blocks view first is r =
    subst (λ s. IsIn job blocks (Other s) 0 view) (sym is) (begins_with job blocks view _ refl r)
