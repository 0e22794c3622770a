-- A whole run, from its turns.
use Rattle.std.proofs.Common.{◌+◌, ◌∙◌, ◌∷◌, ◌≡◌, ◌≤◌, Bool, List, [], ap, arith, cond, false, length, refl, subst}
use Rattle.std.proofs.Common.{sym, true, ℕ}
use Rattle.std.specs.Prelude.{Err, Ok, Result}
use Rattle.mmc_card.proofs.SectorLemmas.{untouched}
use Rattle.mmc_card.specs.BusView.{BusView}
use Rattle.mmc_card.specs.Card.{Card, holds, stored}
use Rattle.mmc_card.specs.Sectors.{AreRead, Change, IsIn, Sector, Sets, Within, changed}
use Rattle.mmc_card.specs.Sectors.{touches, value_of}
use Rattle.mmc_switch.specs.Place.{IsReady}
use Rattle.mmc_switch.specs.UnderWay.{Turn, part_of}
use Rattle.mmc_switch.specs.declared.broken.Broken.{Broken}
use Rattle.mmc_switch.specs.declared.progress.Progress.{Progress}
use Rattle.mmc_switch.specs.declared.progress.Progress.TheVariants.{Done, Failed, More}
use Rattle.mmc_switch.specs.declared.session.Session.{Session}
use Rattle.mmc_switch.proofs.ChangeLemmas.{IsSoFar, RestLaw, exactly, so_far_first, so_far_then}
use Rattle.mmc_switch.proofs.UnderWayLemmas.{room_is}
use Rattle.mmc_transfer.specs.Run.{HasLeft, HasTurned, IsRunning, exchanges_left}
use Rattle.mmc_transfer.specs.Running.{HasEffect, by_way, change_of, written}
use Rattle.mmc_transfer.specs.Whole.{HasRun}
use Rattle.mmc_transfer.specs.declared.job.Job.{Job}
use Rattle.mmc_transfer.specs.declared.run.Run.{Run}
use Rattle.mmc_transfer.specs.declared.way.Way.{Way}
use Rattle.mmc_transfer.specs.declared.way.Way.TheVariants.{Read, Write}

-- What holds at the head of the loop, with these blocks.
pub record IsAlong (begun run : Run) (blocks : List Sector) (first now : BusView) : Type 0 where
  pub job : run.job ≡ begun.job
  pub count : length blocks ≡ begun.job.count
  pub bounded : now.exchanges + exchanges_left run ≤ first.exchanges + exchanges_left begun
  pub kept : now.is_kept ≡ true → first.is_kept ≡ true
  pub so_far : now.is_kept ≡ true → IsReady begun.job.session first
      → IsSoFar (change_of begun.job blocks) (IsRunning run blocks) first now

-- It begins so.
pub along_first : (begun : Run) (session : Session) (blocks : List Sector) (first : BusView)
    → begun.job.session ≡ session → length blocks ≡ begun.job.count
    → ((view : BusView) (blocks : List Sector) → IsReady session view → IsRunning begun blocks 0 view)
    → IsAlong begun begun blocks first first
along_first begun session blocks first given count begins = record {
  job = refl;
  count = count;
  bounded = omega arith;
  kept = λ k. k;
  so_far = λ k ready.
      so_far_first (change_of begun.job blocks) (IsRunning begun blocks) first
      (begins first blocks (subst (λ s. IsReady s first) given ready));
}

-- A run of which the blocks are read changes none, whatever they are.
pub same_change : (job : Job) (blocks other : List Sector) → (job.way ≡ Read) → change_of job blocks ≡ change_of job other
same_change job blocks other reads = rw reads refl

-- a turn after what the run has led to, in terms of the run as it began
then_turned : (begun run : Run) (was blocks : List Sector) (first now new : BusView) (result : Progress Run)
    → change_of begun.job was ≡ change_of begun.job blocks → run.job ≡ begun.job
    → IsSoFar (change_of begun.job was) (IsRunning run was) first now
    → ((faults : ℕ) → IsRunning run was faults now → HasTurned run blocks faults now result new)
    → IsSoFar (change_of begun.job blocks) (HasLeft run blocks result) first new
then_turned begun run was blocks first now new result same job f turned =
    so_far_then (change_of begun.job blocks) (IsRunning run was) (HasLeft run blocks result) first now new
    (subst (λ c. IsSoFar c (IsRunning run was) first now) same f)
    (λ faults running.
    subst (λ j. Turn (change_of j blocks) (HasLeft run blocks result) faults now new) job (turned faults running))

-- It goes on so.
pub along_next : (begun run next : Run) (was blocks : List Sector) (first now new : BusView)
    → change_of begun.job was ≡ change_of begun.job blocks → length blocks ≡ length was
    → IsAlong begun run was first now → new.exchanges + exchanges_left next ≤ now.exchanges + exchanges_left run
    → (new.is_kept ≡ true → now.is_kept ≡ true) → next.job ≡ run.job
    → (new.is_kept ≡ true → (faults : ℕ) → IsRunning run was faults now → HasTurned run blocks faults now (More next) new)
    → IsAlong begun next blocks first new
along_next begun run next was blocks first now new same count a nears kept job turned = record {
  job = job ∙ a.job;
  count = count ∙ a.count;
  bounded = let l = a.bounded in omega (arith, l, nears);
  kept = λ k. a.kept (kept k);
  so_far = λ k ready.
      let f = then_turned begun run was blocks first now new (More next) same a.job (a.so_far (kept k) ready) (turned k) in
      record { stays = f.stays; within = f.within; running = f.running };
}

-- It ends so.

keep_off : (b : Bool) (x v : Sector) (xs : List Sector) → (b ≡ true → ⊥) → IsIn xs v → IsIn (cond b (x ∷ []) xs) v
keep_off true x v xs never h = absurd (never refl)
keep_off false x v xs never h = h

-- nothing is changed
unchanged : (change : Change) (sets : Sets) → change.values ≡ [] → Within sets (changed change sets)
unchanged change sets none part s v h =
    keep_off (touches change part s) (value_of change s) v (sets part s) (untouched change part s none) h

effect_changed : (way : Way) (job : Job) (blocks : List Sector) (card : Card) → job.way ≡ way → HasEffect job blocks card
    → Within (holds card) (changed (change_of job blocks) (holds card))
effect_changed Read job blocks card is h = unchanged (change_of job blocks) (holds card) (ap (λ w. written w blocks) is)
effect_changed Write job blocks card is h =
    subst (λ w. by_way w (AreRead (holds card) (part_of job.session) job.start blocks) (Within (holds card)
    (changed (change_of job blocks) (holds card)))) is h

effect_read : (way : Way) (read change : Type 0) → by_way way read change → by_way way read (Unit {0})
effect_read Read read change h = h
effect_read Write read change h = tt

-- the change is inside the partition
few_enough : (way : Way) (blocks : List Sector) → length (written way blocks) ≤ length blocks
few_enough Read blocks = omega arith
few_enough Write blocks = omega arith

fits_in : (job : Job) (blocks : List Sector) (view : BusView) → length blocks ≡ job.count → IsReady job.session view
    → job.start + length (written job.way blocks) ≤ length (stored view.card (part_of job.session))
fits_in job blocks view count r =
    let few = few_enough job.way blocks in
    let some = job.some in
    let inside = job.inside in
    let room = room_is job.session view r.is_card.sizes r.knows (omega (arith, some, inside)) in
    omega (arith, few, inside, count, room)

-- by the session, the start and the way that it began with
run_as : (job : Job) (session : Session) (start : ℕ) (way : Way) (blocks : List Sector) (old new : BusView)
    (result : Result Session Broken) → job.session ≡ session → job.start ≡ start → job.way ≡ way
    → HasRun job.session job.start job.way blocks old result new → HasRun session start way blocks old result new
run_as job session start way blocks old new result same at goes h =
    subst (λ w. HasRun session start w blocks old result new) goes
    (subst (λ n. HasRun session n job.way blocks old result new) at
    (subst (λ s. HasRun s job.start job.way blocks old result new) same h))

module _ (begun run : Run) (was blocks : List Sector) (first now new : BusView) (session : Session) (start : ℕ)
    (way : Way) (same : change_of begun.job was ≡ change_of begun.job blocks)
    (given : begun.job.session ≡ session) (at : begun.job.start ≡ start) (goes : begun.job.way ≡ way)
    (along : IsAlong begun run was first now) (kept : now.is_kept ≡ true) (ready : IsReady session first) where
  whole : (result : Progress Run)
      → ((faults : ℕ) → IsRunning run was faults now → HasTurned run blocks faults now result new)
      → IsSoFar (change_of begun.job blocks) (HasLeft run blocks result) first new
  whole result turned =
      then_turned begun run was blocks first now new result same along.job
      (along.so_far kept (subst (λ s. IsReady s first) (sym given) ready)) turned

  pub run_done : (done : Session) → RestLaw → length blocks ≡ begun.job.count → done ≡ run.job.session
      → ((faults : ℕ) → IsRunning run was faults now → HasTurned run blocks faults now (Done done) new)
      → HasRun session start way blocks first (Ok done) new
  run_done done rests count is turned =
      let f = whole (Done done) turned in
      let effect : HasEffect begun.job blocks new.card =
      subst (λ j. HasEffect j blocks new.card) along.job f.running.1 in
      let same_session : done ≡ begun.job.session = is ∙ ap (λ (j : Job). j.session) along.job in
      let last : IsReady begun.job.session new = subst (λ s. IsReady s new) same_session f.running.0 in
      run_as begun.job session start way blocks first new (Ok done) given at goes (record {
        stays = f.stays;
        within = f.within;
        leaves = (
          f.running.0,
          exactly (change_of begun.job blocks) first.card new.card (rests first.card ready.set.rest.finished)
              (rests new.card last.set.rest.finished) f.stays.carried (fits_in begun.job blocks new count last) f.within
              (effect_changed begun.job.way begun.job blocks new.card refl effect),
          effect_read begun.job.way _ _ effect,
        );
      })

  pub run_failed : (broken : Broken)
      → ((faults : ℕ) → IsRunning run was faults now → HasTurned run blocks faults now (Failed broken) new)
      → HasRun session start way blocks first (Err broken) new
  run_failed broken turned =
      let f = whole (Failed broken) turned in
      run_as begun.job session start way blocks first new (Err broken) given at goes
      (record { stays = f.stays; within = f.within; leaves = f.running })
