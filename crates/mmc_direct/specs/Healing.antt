-- What attempts at a request add to the counts of what was met and healed.
use Rattle.std.specs.Prelude.{◌+◌, ◌≡◌, ◌≤◌, Bool, false, true, ℕ}
use Rattle.mmc_recovery.specs.Healed.{with_attempt, with_failure, with_settling}
use Rattle.mmc_recovery.specs.declared.healed.Healed.{Healed}
use Rattle.mmc_switch.specs.declared.broken.Broken.{Broken}
use Rattle.mmc_switch.specs.declared.stands.Stands.{Stands}

-- the card has to be reset
abbrev pub must_reset : Stands → Bool
must_reset (Stands.Ready session) = false
must_reset (Stands.Broken broken) = broken.must_reset

-- a card that is broken was settled, and reset or not
abbrev pub after_settling : Stands → Bool → Healed → Healed
after_settling (Stands.Ready session) was_reset healed = healed
after_settling (Stands.Broken broken) was_reset healed = with_settling was_reset healed

-- an attempt that left the card so is over
abbrev pub after_attempt : Stands → Healed → Healed
after_attempt (Stands.Ready session) healed = with_attempt healed
after_attempt (Stands.Broken broken) healed = with_failure broken.cause (with_attempt healed)

-- Before its run an attempt settles a card that stands broken, and resets one that has to be reset.
pub record HasSettled (stands : Stands) (old new : Healed) : Type 0 where
  pub was_reset : Bool
  pub needed : must_reset stands ≡ true → was_reset ≡ true
  pub healed : new ≡ after_settling stands was_reset old

-- So many attempts at a request of a card that stood so. All but the last have failed, and each is counted by how it left the card.
pub data Heals (stands : Stands) (old : Healed) : ℕ → Stands → Healed → Type 0 where
  first : (settled : Healed) (left : Stands) → HasSettled stands old settled
      → Heals stands old 1 left (after_attempt left settled)
  again : (before : ℕ) (broken : Broken) (healed settled : Healed) (left : Stands)
      → Heals stands old before (Stands.Broken broken) healed → HasSettled (Stands.Broken broken) healed settled
      → Heals stands old (before + 1) left (after_attempt left settled)

-- of so many attempts all were used up where the last one has failed
abbrev pub AreAll : ℕ → ℕ → Stands → Type 0
AreAll most attempts (Stands.Ready session) = attempts ≤ most
AreAll most attempts (Stands.Broken broken) = attempts ≡ most

-- A request that has so many attempts, and left the card so, is counted by those that were made.
pub record HasHealed (most : ℕ) (stands : Stands) (old : Healed) (left : Stands) (new : Healed) : Type 0 where
  pub attempts : ℕ
  pub all : AreAll most attempts left
  pub heals : Heals stands old attempts left new
