-- A whole run, from its turns.
use Rattle.std.proofs.Common.{◌+◌, ◌<◌, ◌∙◌, ◌≡◌, ◌≤◌, ap, arith, length, refl, subst, sym, true, ℕ}
use Rattle.std.specs.Prelude.{Err, Ok, Result, replicate}
use Rattle.std.proofs.lemmas.List.{length-replicate}
use Rattle.mmc_card.specs.BusView.{BusView}
use Rattle.mmc_card.specs.Card.{stored}
use Rattle.mmc_switch.proofs.ChangeLemmas.{IsSoFar, RestLaw, exactly, so_far_first, so_far_then}
use Rattle.mmc_switch.proofs.UnderWayLemmas.{room_is}
use Rattle.mmc_switch.specs.Place.{IsReady}
use Rattle.mmc_switch.specs.UnderWay.{IsCarriedOut, Turn, part_of}
use Rattle.mmc_switch.specs.declared.broken.Broken.{Broken}
use Rattle.mmc_switch.specs.declared.progress.Progress.{Progress}
use Rattle.mmc_switch.specs.declared.progress.Progress.TheVariants.{Done, Failed, More}
use Rattle.mmc_switch.specs.declared.session.Session.{Session}
use Rattle.mmc_erase.specs.Run.{HasLeft, HasTurned, IsRunning, exchanges_left}
use Rattle.mmc_erase.specs.Running.{change_of}
use Rattle.mmc_erase.specs.Whole.{HasErased}
use Rattle.mmc_erase.specs.declared.job.Job.{Job}
use Rattle.mmc_erase.specs.declared.run.EraseRun.{EraseRun}

-- What holds at the head of the loop.
pub record IsAlong (begun run : EraseRun) (first now : BusView) : Type 0 where
  pub job : run.job ≡ begun.job
  pub bounded : now.exchanges + exchanges_left run ≤ first.exchanges + exchanges_left begun
  pub kept : now.is_kept ≡ true → first.is_kept ≡ true
  pub so_far : now.is_kept ≡ true → IsReady begun.job.session first
      → IsSoFar (change_of begun.job) (IsRunning run) first now

-- It begins so.
pub along_first : (begun : EraseRun) (session : Session) (first : BusView) → begun.job.session ≡ session
    → ((view : BusView) → IsReady session view → IsRunning begun 0 view) → IsAlong begun begun first first
along_first begun session first given begins = record {
  job = refl;
  bounded = omega arith;
  kept = λ k. k;
  so_far = λ k ready.
      so_far_first (change_of begun.job) (IsRunning begun) first
      (begins first (subst (λ s. IsReady s first) given ready));
}

-- a turn after what the run has led to, in terms of the run as it began
then_turned : (begun run : EraseRun) (first now new : BusView) (result : Progress EraseRun) → run.job ≡ begun.job
    → IsSoFar (change_of begun.job) (IsRunning run) first now
    → ((faults : ℕ) → IsRunning run faults now → HasTurned run faults now result new)
    → IsSoFar (change_of begun.job) (HasLeft run result) first new
then_turned begun run first now new result job f turned =
    so_far_then (change_of begun.job) (IsRunning run) (HasLeft run result) first now new f
    (λ faults running. subst (λ j. Turn (change_of j) (HasLeft run result) faults now new) job (turned faults running))

-- It goes on so.
pub along_next : (begun run next : EraseRun) (first now new : BusView) → IsAlong begun run first now
    → new.exchanges ≤ now.exchanges + 1 → (new.is_kept ≡ true → now.is_kept ≡ true) → next.job ≡ run.job
    → exchanges_left next < exchanges_left run
    → (new.is_kept ≡ true → (faults : ℕ) → IsRunning run faults now → HasTurned run faults now (More next) new)
    → IsAlong begun next first new
along_next begun run next first now new a one kept job lowers turned = record {
  job = job ∙ a.job;
  bounded = let l = a.bounded in omega (arith, l, one, lowers);
  kept = λ k. a.kept (kept k);
  so_far = λ k ready.
      let f = then_turned begun run first now new (More next) a.job (a.so_far (kept k) ready) (turned k) in
      record { stays = f.stays; within = f.within; running = f.running };
}

-- It ends so.

-- the change is inside the partition
fits_in : (job : Job) (view : BusView) → IsReady job.session view
    → job.start + length (change_of job).values ≤ length (stored view.card (part_of job.session))
fits_in job view r =
    let some = job.some in
    let inside = job.inside in
    let size = length-replicate job.count (replicate 512 job.session.info.erased_byte) in
    let room = room_is job.session view r.is_card.sizes r.knows (omega (arith, some, inside)) in
    omega (arith, inside, size, room)

module _ (begun run : EraseRun) (first now new : BusView) (session : Session) (start count : ℕ)
    (given : begun.job.session ≡ session) (at : begun.job.start ≡ start) (many : begun.job.count ≡ count)
    (along : IsAlong begun run first now) (kept : now.is_kept ≡ true) (ready : IsReady session first) where
  whole : (result : Progress EraseRun)
      → ((faults : ℕ) → IsRunning run faults now → HasTurned run faults now result new)
      → IsSoFar (change_of begun.job) (HasLeft run result) first new
  whole result turned =
      then_turned begun run first now new result along.job
      (along.so_far kept (subst (λ s. IsReady s first) (sym given) ready)) turned

  -- by the session, the start and the count that it began with
  run_as : (result : Result Session Broken) → HasErased begun.job.session begun.job.start begun.job.count first result new
      → HasErased session start count first result new
  run_as result h =
      subst (λ s. HasErased s start count first result new) given
      (subst (λ n. HasErased begun.job.session n count first result new) at
      (subst (λ n. HasErased begun.job.session begun.job.start n first result new) many h))

  pub run_done : (done : Session) → RestLaw → done ≡ run.job.session
      → ((faults : ℕ) → IsRunning run faults now → HasTurned run faults now (Done done) new)
      → HasErased session start count first (Ok done) new
  run_done done rests is turned =
      let f = whole (Done done) turned in
      let effect : IsCarriedOut (change_of begun.job) new.card =
      subst (λ j. IsCarriedOut (change_of j) new.card) along.job f.running.1 in
      let same_session : done ≡ begun.job.session = is ∙ ap (λ (j : Job). j.session) along.job in
      let last : IsReady begun.job.session new = subst (λ s. IsReady s new) same_session f.running.0 in
      run_as (Ok done) (record {
        stays = f.stays;
        within = f.within;
        leaves = (
          f.running.0,
          exactly (change_of begun.job) first.card new.card (rests first.card ready.set.rest.finished)
              (rests new.card last.set.rest.finished) f.stays.carried (fits_in begun.job new last) f.within effect,
        );
      })

  pub run_failed : (broken : Broken)
      → ((faults : ℕ) → IsRunning run faults now → HasTurned run faults now (Failed broken) new)
      → HasErased session start count first (Err broken) new
  run_failed broken turned =
      let f = whole (Failed broken) turned in
      run_as (Err broken) (record { stays = f.stays; within = f.within; leaves = f.running })
