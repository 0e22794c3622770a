-- What a turn adds to the counts of what was met and healed.
use Rattle.std.specs.Prelude.{◌∷◌, ◌≡◌, Bool, IfSome, List, None, Option, Some, []}
use Rattle.mmc_card.specs.BusView.{BusView}
use Rattle.mmc_bus.specs.declared.cause.Cause.{Cause}
use Rattle.mmc_recovery.specs.Healed.{with_attempt, with_failure, with_settling}
use Rattle.mmc_recovery.specs.Settled.{TellsReset}
use Rattle.mmc_recovery.specs.declared.order.Patience.TheVariants.{Once}
use Rattle.mmc_recovery.specs.declared.healed.Healed.{Healed}
use Rattle.mmc_switch.specs.declared.broken.Broken.{Broken}
use Rattle.mmc_switch.specs.declared.progress.Progress.{Progress}
use Rattle.mmc_switch.specs.declared.progress.Progress.TheVariants.{Done, Failed, More}
use Rattle.mmc_switch.specs.declared.session.Session.{Session}
use Rattle.mmc_block.specs.Device.{DeviceView}
use Rattle.mmc_block.specs.Service.{Service}
use Rattle.mmc_block.specs.Service.Service.{Idle, Serving, Taken}
use Rattle.mmc_block.specs.declared.completion.Completion.{Completion}
use Rattle.mmc_switch.specs.declared.stands.Stands.TheVariants as Stands
use Rattle.mmc_block.specs.declared.service.Stage.{Stage}
use Rattle.mmc_block.specs.declared.service.Stage.TheVariants.{At, Running}

-- the card, where it is broken
abbrev pub broken_at : Stage → Option Broken
broken_at (At (Stands.Broken broken)) = Some broken
broken_at (At (Stands.Ready session)) = None
broken_at (Running work) = None

abbrev pub broken_in : Service → Option Broken
broken_in (Idle stands) = broken_at (At stands)
broken_in (Serving stage attempt) = broken_at stage
broken_in Taken = None

-- the card that is ready, where no run is under way
abbrev pub ready_at : Stage → Option Session
ready_at (At (Stands.Ready session)) = Some session
ready_at (At (Stands.Broken broken)) = None
ready_at (Running work) = None

abbrev pub ready_in : Service → Option Session
ready_in (Idle stands) = ready_at (At stands)
ready_in (Serving stage attempt) = ready_at stage
ready_in Taken = None

-- A turn that finds a broken card settles it.
abbrev pub after_settling : Option Broken → Bool → Healed → Healed
after_settling None was_reset healed = healed
after_settling (Some broken) was_reset healed = with_settling was_reset healed

-- An attempt is over where it leaves a broken card, and has failed then; and where it gives answers.
abbrev pub after_attempt : Option Broken → List Completion → Healed → Healed
after_attempt (Some broken) completions healed = with_failure broken.cause (with_attempt healed)
after_attempt None (c ∷ cs) healed = with_attempt healed
after_attempt None [] healed = healed

-- What a turn adds for which something was without an answer: a settling where the card was broken, and a reset where that
-- was one; an attempt that is over, and its failure.
pub record TurnHeals {B : Type 0} (view : B → BusView) (old : DeviceView B) (completions : List Completion)
    (new : DeviceView B) : Type 0 where
  pub was_reset : Bool
  pub tells : IfSome (broken_in old.service) (λ broken.
      TellsReset Once broken (view old.bus) (ready_in new.service) was_reset (view new.bus))
  pub healed : new.healed
      ≡ after_attempt (broken_in new.service) completions (after_settling (broken_in old.service) was_reset old.healed)

-- Over any number of turns.

-- one thing that is counted
pub data Noted : Type 0 where
  Attempted : Noted
  Met : Cause → Noted
  Settled : Bool → Noted

abbrev pub with_noted : Noted → Healed → Healed
with_noted Attempted healed = with_attempt healed
with_noted (Met cause) healed = with_failure cause healed
with_noted (Settled was_reset) healed = with_settling was_reset healed

-- these things more
abbrev pub with_all : List Noted → Healed → Healed
with_all [] healed = healed
with_all (noted ∷ others) healed = with_all others (with_noted noted healed)

-- Attempts, failures and settlings were added to the counts, or nothing was, and nothing else became of them.
abbrev pub OnlyAdds : Healed → Healed → Type 0
OnlyAdds old new = (noted : List Noted) × (new ≡ with_all noted old)

-- Within a turn: a step that has left this outcome, and what is decided after it.

abbrev pub ready_then : Progress Stage → Option Session
ready_then (More stage) = ready_at stage
ready_then (Done session) = Some session
ready_then (Failed broken) = None

pub record StepHeals (stage : Stage) (was : BusView) (old : Healed) (outcome : Progress Stage) (now : BusView)
    (new : Healed) : Type 0 where
  pub was_reset : Bool
  pub tells : IfSome (broken_at stage) (λ broken. TellsReset Once broken was (ready_then outcome) was_reset now)
  pub healed : new ≡ after_settling (broken_at stage) was_reset old

abbrev pub after_outcome : Progress Stage → Healed → Healed
after_outcome (More stage) healed = healed
after_outcome (Done session) healed = with_attempt healed
after_outcome (Failed broken) healed = with_failure broken.cause (with_attempt healed)
