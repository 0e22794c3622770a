-- A turn of the device.
use Rattle.std.specs.Prelude.{◌*◌, ◌+◌, ◌<◌, ◌≡◌, ◌≤◌, List, length, true}
use Rattle.mmc_bus.specs.declared.cause.Cause.{Cause}
use Rattle.mmc_card.specs.BusView.{BusView}
use Rattle.mmc_recovery.specs.declared.settling.TheConstants.{EXCHANGES_OF_A_SETTLE}
use Rattle.mmc_block.specs.Any.{Answers, IfEachFailed, holds_broken}
use Rattle.mmc_block.specs.Device.{Comes, DeviceView, unanswered_of, work_of}
use Rattle.mmc_block.specs.Execution.{Counted, CountedSteps}
use Rattle.mmc_block.specs.Execution.Event.{Turn}
use Rattle.mmc_block.specs.Execution.Reply.{Answers as Gives}
use Rattle.mmc_block.specs.Healing.{TurnHeals}
use Rattle.mmc_block.specs.Service.{in_service_of}
use Rattle.mmc_transfer.specs.declared.pace.Pace.{Pace}
use Rattle.mmc_block.specs.Work.{IsCauseAfter, most_exchanges}
use Rattle.mmc_block.specs.declared.completion.Completion.{Completion}

-- A turn at this pace that gave these answers.
pub record IsTurn {B : Type 0} (view : B → BusView) (pace : Pace) (old : DeviceView B) (completions : List Completion)
    (new : DeviceView B) : Type 0 where
  -- over a bus that is kept: a turn of the sector machine
  pub machine : (view new.bus).is_kept ≡ true
      → Comes view old (λ (c n : Counted). CountedSteps old.info c Turn (Gives completions) n) new
  pub kept : (view new.bus).is_kept ≡ true → (view old.bus).is_kept ≡ true
  -- over any bus
  pub answers : Answers old.waits (in_service_of old.service) completions new.waits (in_service_of new.service)
  pub leaves : unanswered_of new + length completions ≡ unanswered_of old
  pub lowers : 0 < work_of old → work_of new < work_of old
  pub same : (new.info ≡ old.info) × (new.next ≡ old.next)
  pub idle : unanswered_of old ≡ 0 → new ≡ old
  pub paid : (view new.bus).exchanges + EXCHANGES_OF_A_SETTLE * work_of new
      ≤ (view old.bus).exchanges + EXCHANGES_OF_A_SETTLE * work_of old
  pub by_stage : (view new.bus).exchanges ≤ (view old.bus).exchanges + most_exchanges pace old.service
  pub cause : IfEachFailed completions (λ (cause : Cause). IsCauseAfter (holds_broken old.service) cause (view new.bus))
  pub healed : 0 < unanswered_of old → TurnHeals view old completions new
