-- What came of a request, and how it left the card.
use Rattle.std.specs.Prelude.{◌+◌, ◌≡◌, ◌≢◌, ◌≤◌, Err, None, Ok, Option, Result, Some, true, ℕ}
use Rattle.mmc_card.specs.BusView.{BusView}
use Rattle.mmc_bus.specs.Heard.{cause_of}
use Rattle.mmc_bus.specs.declared.cause.Cause.{Cause}
use Rattle.mmc_bus.specs.declared.cause.Cause.TheVariants.{Recovery}
use Rattle.mmc_recovery.specs.declared.settling.TheConstants.{EXCHANGES_OF_A_PATIENT_SETTLE}
use Rattle.mmc_switch.specs.declared.broken.Broken.{Broken}
use Rattle.mmc_switch.specs.declared.session.Session.{Session}
use Rattle.mmc_direct.specs.declared.refused.NotDone.{NotDone}
use Rattle.mmc_direct.specs.declared.refused.NotDone.TheVariants.{Failed, Refused as RefusedFor}
use Rattle.mmc_requests.specs.declared.refused.Refused.{Refused}
use Rattle.mmc_switch.specs.declared.stands.Stands.{Stands}

-- What came of attempts.

abbrev pub answer_of : Result Session Broken → Result Unit NotDone
answer_of (Ok session) = Ok tt
answer_of (Err broken) = Err (Failed broken.cause)

-- What came of a request.

-- why it was refused, if it was
abbrev pub refusal_in : Result Unit NotDone → Option Refused
refusal_in (Ok done) = None
refusal_in (Err (RefusedFor why)) = Some why
refusal_in (Err (Failed cause)) = None

-- it was refused, and this holds
abbrev pub IfRefused : Result Unit NotDone → Type 0 → Type 0
IfRefused (Ok done) Holds = Unit {0}
IfRefused (Err (RefusedFor why)) Holds = Holds
IfRefused (Err (Failed cause)) Holds = Unit {0}

-- it was not refused, and this holds
abbrev pub IfServed : Result Unit NotDone → Type 0 → Type 0
IfServed (Err (RefusedFor why)) Holds = Unit {0}
IfServed _ Holds = Holds

-- where its attempts have failed, this holds of their cause
abbrev pub IfFailed : Result Unit NotDone → (Cause → Type 0) → Type 0
IfFailed (Ok done) Holds = Unit {0}
IfFailed (Err (RefusedFor why)) Holds = Unit {0}
IfFailed (Err (Failed cause)) Holds = Holds cause

-- where it was done the card is ready, and where it failed the card is broken, by the same cause
abbrev pub AnswersBy : Result Unit NotDone → Stands → Type 0
AnswersBy (Ok done) (Stands.Ready session) = Unit {0}
AnswersBy (Ok done) (Stands.Broken broken) = ⊥
AnswersBy (Err (RefusedFor why)) stands = Unit {0}
AnswersBy (Err (Failed cause)) (Stands.Ready session) = ⊥
AnswersBy (Err (Failed cause)) (Stands.Broken broken) = cause ≡ broken.cause

-- where its attempts have failed, this holds of what they left
abbrev pub IfLeft : Result Unit NotDone → Stands → (Broken → Type 0) → Type 0
IfLeft (Err (Failed cause)) (Stands.Broken broken) Holds = Holds broken
IfLeft _ _ Holds = Unit {0}

-- Why attempts have failed.

-- What a settle leaves that failed: the card has to be reset, and which partition is selected isn't known.
pub record IsUnsettled (broken : Broken) : Type 0 where
  pub must_reset : broken.must_reset ≡ true
  pub unknown : broken.session.selected ≡ None

-- The cause is that of the last exchange. It is Recovery only where the last attempt made no run, since the card couldn't be settled:
-- those before it made so many exchanges at most, and it made those of a settle.
pub record IsCausedIn (before : ℕ) (broken : Broken) (old new : BusView) : Type 0 where
  pub heard : broken.cause ≢ Recovery → cause_of new.last ≡ Some broken.cause
  pub unsettled : broken.cause ≡ Recovery → IsUnsettled broken
  pub settles : broken.cause ≡ Recovery → new.exchanges ≤ old.exchanges + (before + EXCHANGES_OF_A_PATIENT_SETTLE)
