-- What a turn does with the attempt that is in service, over any bus.
use Rattle.std.specs.Prelude.{◌+◌, ◌≡◌, ◌≤◌, Bool, true, ℕ}
use Rattle.mmc_card.specs.BusView.{BusView}
use Rattle.mmc_queue.specs.Group.{IsJoined}
use Rattle.mmc_queue.specs.Lent.{AreLent}
use Rattle.mmc_queue.specs.declared.group.Group.{Group}
use Rattle.mmc_switch.specs.declared.info.Info.{Info}
use Rattle.mmc_switch.specs.declared.progress.Progress.{Progress}
use Rattle.mmc_switch.specs.UnderWay.{faults_then}
use Rattle.mmc_block.specs.Entries.{AreServable}
use Rattle.mmc_switch.specs.Place.{IsReady}
use Rattle.mmc_switch.specs.declared.session.Session.{Session}
use Rattle.mmc_block.specs.Service.{Did, GoesOnReady, IsAt, IsOutcomeOf, IsUnderWay, IsWorkOf, change_of_group, info_of_outcome}
use Rattle.mmc_block.specs.Service.{info_of_stage, session_of}
use Rattle.mmc_transfer.specs.declared.pace.Pace.{Pace}
use Rattle.mmc_block.specs.Work.{IsCausedBy, Lowers, Pays, is_broken, most_at, run_left, stage_left}
use Rattle.mmc_block.specs.declared.service.Stage.{Stage}
use Rattle.mmc_block.specs.declared.service.Work.{Work}
use Rattle.mmc_block.specs.declared.work.TheConstants.{TURNS_OF_A_RUN}

-- A run for the group has begun with this session.
pub record HasBegun (session : Session) (group : Group) (work : Work) : Type 0 where
  pub of : IsWorkOf group work
  pub session_is : session_of work ≡ session
  pub bounded : run_left work ≤ TURNS_OF_A_RUN
  pub under_way : (view : BusView) → IsReady session view → IsUnderWay work group 0 view

-- A settle, a select or an exchange, for a group of which so many turns were left, on a card of which this is known and
-- that was broken or not.
pub record Advances (info : Info) (was_broken : Bool) (most left : ℕ) (old : Group) (was : BusView) (outcome : Progress Stage)
    (new : Group) (now : BusView) : Type 0 where
  -- the same requests in the same extent, with their own buffers
  pub lent : AreLent old.members.items new.members.items
  pub extent : new.extent ≡ old.extent
  pub joined : IsJoined new.members.items new.extent
  -- what is still to be done is for them, on the same card, and less than before
  pub of : IsOutcomeOf new outcome
  pub goes_on : GoesOnReady outcome
  pub info_is : info_of_outcome outcome ≡ info
  pub lowers : Lowers left old.extent.part outcome
  -- so many exchanges at most, and where it fails their cause
  pub bounded : now.exchanges ≤ was.exchanges + most
  pub paid : Pays old.extent.part left was outcome now
  pub kept : now.is_kept ≡ true → was.is_kept ≡ true
  pub cause : IsCausedBy was_broken outcome now

-- What a step leaves of an attempt that had come so far: the above, by requests that the device can serve; and over a bus that
-- is kept, what it does to the sectors, after so many faults in the turns of its run.
pub record Stepped (pace : Pace) (stage : Stage) (old : Group) (was : BusView) (outcome : Progress Stage) (new : Group) (now : BusView) : Type 0 where
  pub advances : Advances (info_of_stage stage) (is_broken stage) (most_at pace stage) (stage_left stage old.extent.part) old was outcome new now
  pub servable : AreServable (info_of_stage stage) new.members.items
  pub did : now.is_kept ≡ true → (faults : ℕ) → IsAt stage old faults was
      → Did (change_of_group (info_of_stage stage) old) new (faults_then faults was now) was outcome now
