-- Work with a session's card that takes several turns: where the card is meanwhile, and what a failure leaves.
use Rattle.std.specs.Prelude.{◌+◌, ◌-◌, ◌<◌, ◌≡◌, Err, List, None, Ok, Option, Result, Some, false, true, ℕ}
use Rattle.mmc_frame.specs.declared.card_state.State.{State}
use Rattle.mmc_frame.specs.declared.card_state.State.TheVariants.{Prg, Tran}
use Rattle.mmc_card.specs.declared.part.Part.{Part}
use Rattle.mmc_card.specs.declared.part.Part.TheVariants.{User}
use Rattle.mmc_card.specs.BusView.{BusView}
use Rattle.mmc_card.specs.Card.{Card, IsCard, NoAddress, holds, patience}
use Rattle.mmc_card.specs.Sectors.{Change, Sector, Within, changed, maybe_changed}
use Rattle.mmc_bus.specs.Heard.{cause_of}
use Rattle.mmc_bus.specs.Learned.{Stays}
use Rattle.mmc_bus.specs.declared.cause.Cause.{Cause}
use Rattle.mmc_switch.specs.Place.{IsBroken, Knows, StandsAs}
use Rattle.mmc_switch.specs.Sizes.{size_of}
use Rattle.mmc_switch.specs.declared.broken.Broken.{Broken}
use Rattle.mmc_switch.specs.declared.progress.Progress.{Progress}
use Rattle.mmc_switch.specs.declared.progress.Progress.TheVariants.{Failed}
use Rattle.mmc_switch.specs.declared.session.Session.{Session}

-- the partition that is selected; where that isn't known, no work begins
abbrev pub known_part : Option Part → Part
known_part (Some part) = part
known_part None = User

abbrev pub part_of : Session → Part
part_of session = known_part session.selected

-- its size in sectors
abbrev pub room_of : Session → ℕ
room_of session = size_of session.info.sizes (part_of session)

-- in this state with nothing to show, this count preset and no erase address
pub record IsQuiet (place : State) (preset : ℕ) (card : Card) : Type 0 where
  pub state : card.state ≡ place
  pub app : card.app ≡ false
  pub command_errors : card.command_errors ≡ 0
  pub errors : card.errors ≡ 0
  pub switch_error : card.switch_error ≡ false
  pub count : card.count ≡ preset
  pub erase : card.erase ≡ NoAddress

-- In tran with nothing to do, and this count preset.
pub record IsIdle (preset : ℕ) (card : Card) : Type 0 where
  pub quiet : IsQuiet Tran preset card
  pub rests : card.is_busy ≡ false

-- A card that was asked whether it is busy so often, and is.
pub record IsBusyAfter (polls : ℕ) (card : Card) : Type 0 where
  pub busy : card.is_busy ≡ true
  pub polled : card.polled < patience → card.polled ≡ polls

-- It programs these values, from this sector on of the partition that is selected.
pub record IsProgramming (first : ℕ) (news : List Sector) (card : Card) : Type 0 where
  pub quiet : IsQuiet Prg 0 card
  pub start : card.start ≡ first
  pub values : card.values ≡ news

-- A change is carried out: each of its sectors has its new value alone.
abbrev pub IsCarriedOut : Change → Card → Type 0
IsCarriedOut change card = Within (holds card) (changed change (holds card))

-- The work is under way after so many faults in its turns. The session knows the card, which stands as it says, whatever
-- fell. The card is exactly where the work has come to if it shows itself sound, and so it is if no fault fell.
pub record IsUnderWay (session : Session) (Shown Exact : Card → Type 0) (faults : ℕ) (view : BusView) : Type 0 where
  pub is_card : IsCard view.card
  pub knows : Knows session view
  pub stands : StandsAs session view
  pub shown : Shown view.card → Exact view.card
  pub fine : faults ≡ 0 → Exact view.card

-- the faults in the turns of some work, once these fell in another turn
abbrev pub faults_then : ℕ → BusView → BusView → ℕ
faults_then faults old new = faults + (new.faults - old.faults)

-- what is left of a session that something failed with
abbrev pub broken_off : Session → Cause → Broken
broken_off session cause = record { session = session; cause = cause; must_reset = false }

-- The session stays as it was.
abbrev pub IsSameSession : Session → Result Session Broken → Type 0
IsSameSession session (Ok same) = same ≡ session
IsSameSession session (Err broken) = broken ≡ broken_off session broken.cause

-- the cause of a failure is that of the last exchange
abbrev pub FailsBy : {R : Type 0} → Progress R → BusView → Type 0
FailsBy (Failed broken) view = cause_of view.last ≡ Some broken.cause
FailsBy _ view = Unit {0}

-- what a failure leaves: a broken card, and a fault that fell in one of the work's turns
pub record HasFailed (broken : Broken) (faults : ℕ) (view : BusView) : Type 0 where
  pub is_broken : IsBroken broken view
  pub fell : 0 < faults

-- A turn of work that changes some sectors, after so many faults in its turns: each of them is old or new, and no other
-- has changed. What the turn leaves is the work's own.
pub record Turn (change : Change) (Left : ℕ → BusView → Type 0) (faults : ℕ) (old new : BusView) : Type 0 where
  pub stays : Stays old new
  pub within : Within (holds new.card) (maybe_changed change (holds old.card))
  pub left : Left (faults_then faults old new) new
