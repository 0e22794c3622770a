-- What settling does with the card of a broken session, and what it leaves.
use Rattle.std.specs.Prelude.{◌+◌, ◌≡◌, ◌≤◌, ◌⊎◌, Bool, Err, IfSome, IsOk, MatchResult, None, Ok, Option, Result, Some}
use Rattle.std.specs.Prelude.{false, true, ℕ}
use Rattle.mmc_card.specs.BusView.{BusView}
use Rattle.mmc_card.specs.Card.{Card}
use Rattle.mmc_card.specs.CardAnswer.{shown}
use Rattle.mmc_card.specs.RowsErase.{forgotten}
use Rattle.mmc_card.specs.declared.part.Part.TheVariants.{User}
use Rattle.mmc_bus.specs.declared.cause.Cause.{Cause}
use Rattle.mmc_bus.specs.declared.cause.Cause.TheVariants.{Answer, Recovery}
use Rattle.mmc_switch.specs.Place.{IsBroken, IsReady, Knows, StandsAs}
use Rattle.mmc_switch.specs.declared.broken.Broken.{Broken}
use Rattle.mmc_switch.specs.declared.info.Info.{Info}
use Rattle.mmc_switch.specs.declared.session.Session.{Session}
use Rattle.mmc_recovery.specs.declared.order.Patience.{Patience}
use Rattle.mmc_recovery.specs.declared.order.Patience.TheVariants.{Once, Twice}
use Rattle.mmc_recovery.specs.declared.order.TheConstants.{EXCHANGES_OF_A_PATIENT_RESTORATION, EXCHANGES_OF_A_RESTORATION}
use Rattle.mmc_recovery.specs.declared.reopening.TheConstants.{ROUNDS_OF_A_PATIENT_RESET}

-- the most exchanges of a restoration with so much patience
abbrev pub restoring : Patience → ℕ
restoring Once = EXCHANGES_OF_A_RESTORATION
restoring Twice = EXCHANGES_OF_A_PATIENT_RESTORATION

-- the most rounds of a reset with so much patience
abbrev pub rounds_with : Patience → ℕ
rounds_with Once = 1
rounds_with Twice = ROUNDS_OF_A_PATIENT_RESET

-- a card after CMD16, whether it was carried out or found an error: its status is shown, and it holds no erase address
abbrev pub IsFreed : Card → Card → Type 0
IsFreed old new = (new ≡ record (shown (forgotten old)) { block_length = 512 }) ⊎ (new ≡ shown (forgotten old))

-- A card that stood as its session says, with this known of it, is ready for that session if this is a success, and stands so
-- still where an answer wasn't heard.
abbrev pub Restores : Info → Result Unit Cause → BusView → BusView → Type 0
Restores info result old new =
    (session : Session) → session.info ≡ info → Knows session old → StandsAs session old
    → (IsOk result → IsReady session new) × (result ≡ Err Answer → StandsAs session new)

-- a card that is ready for its session, or one that is left broken
abbrev pub Leaves : Result Session Broken → BusView → Type 0
Leaves result new = MatchResult result (λ session. IsReady session new) (λ left. IsBroken left new)

-- The card has to be reset, since settling failed, and which partition is selected isn't known.
abbrev pub given_up : Broken → Broken
given_up broken =
    record { session = record broken.session { selected = None }; cause = Recovery; must_reset = true }

-- the session of a card that goes on
abbrev pub session_of : Result Session Broken → Option Session
session_of (Ok session) = Some session
session_of (Err left) = None

-- Whether a card was reset, by the session with which it goes on, if it does: it wasn't only where it goes on as it was, and was
-- no more than restored where it stood, with so much patience.
pub record TellsReset (patience : Patience) (broken : Broken) (was : BusView) (session : Option Session) (was_reset : Bool)
    (now : BusView) : Type 0 where
  pub needed : broken.must_reset ≡ true → was_reset ≡ true
  pub as_it_was : was_reset ≡ false → session ≡ Some broken.session
  pub few : was_reset ≡ false → now.exchanges ≤ was.exchanges + restoring patience
  pub anew : was_reset ≡ true → IfSome session (λ s. s.selected ≡ Some User)
