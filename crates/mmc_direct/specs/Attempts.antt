-- What attempts at a request do with the card.
use Rattle.std.specs.Prelude.{◌*◌, ◌+◌, ◌-◌, ◌<◌, ◌≡◌, ◌≤◌, IfErr, IfOk, Result, true, ℕ}
use Rattle.mmc_card.specs.BusView.{BusView}
use Rattle.mmc_card.specs.Card.{holds}
use Rattle.mmc_card.specs.Profile.{InProfile}
use Rattle.mmc_card.specs.Sectors.{Change, Within, maybe_changed}
use Rattle.mmc_bus.specs.Learned.{Stays}
use Rattle.mmc_bus.specs.Work.{Narrows}
use Rattle.mmc_switch.specs.Info.{lasting}
use Rattle.mmc_switch.specs.declared.broken.Broken.{Broken}
use Rattle.mmc_switch.specs.declared.session.Session.{Session}
use Rattle.mmc_transfer.specs.declared.turns.TheConstants.{EXCHANGES_BESIDE_BLOCKS, EXCHANGES_OF_A_BLOCK}
use Rattle.mmc_erase.specs.declared.turns.TheConstants.{EXCHANGES_OF_AN_ERASE}
use Rattle.mmc_requests.specs.Changes.{TakesEffect}
use Rattle.mmc_direct.specs.Asked.{exchanges_of_run}
use Rattle.mmc_direct.specs.Served.{IsCausedIn}
use Rattle.mmc_requests.specs.declared.asked.Asked.{Asked}
use Rattle.mmc_switch.specs.Stands.{StandsIn, info_of, stands_of}
use Rattle.mmc_direct.specs.declared.attempts.TheConstants.{EXCHANGES_BESIDE_A_RUN}
use Rattle.mmc_switch.specs.declared.stands.Stands.{Stands}

-- the most exchanges of an attempt that moves so many blocks
abbrev pub moving : ℕ → ℕ
moving count = EXCHANGES_OF_A_BLOCK * count + EXCHANGES_BESIDE_BLOCKS + EXCHANGES_BESIDE_A_RUN

-- and of one that erases or trims
abbrev pub erasing : ℕ
erasing = EXCHANGES_OF_AN_ERASE + EXCHANGES_BESIDE_A_RUN

-- and of one at what a request asks for, of any kind
abbrev pub exchanges_of : Asked → ℕ
exchanges_of asked = exchanges_of_run asked + EXCHANGES_BESIDE_A_RUN

-- Before the run: no sector may hold more, and a failure takes a fault.
pub record HasPrepared (old : BusView) (result : Result Session Broken) (new : BusView) : Type 0 where
  pub stays : Stays old new
  pub narrows : Narrows old new
  pub stands : StandsIn (stands_of result) new
  pub fell : IfErr result (λ broken. InProfile old.card.made → old.faults < new.faults)

-- So many attempts at a change at most, and the last one came to this. Where it failed all have, and in each a fault fell.
pub record HasTried (attempts : ℕ) (change : Change) (old : BusView) (result : Result Session Broken)
    (new : BusView) : Type 0 where
  pub stays : Stays old new
  pub stands : StandsIn (stands_of result) new
  pub within : Within (holds new.card) (maybe_changed change (holds old.card))
  pub done : IfOk result (λ session. TakesEffect change (holds old.card) (holds new.card))
  pub fell : IfErr result (λ broken. InProfile old.card.made → old.faults + attempts ≤ new.faults)

-- The same over any bus, with at most so many exchanges each, on a card that stood so.
pub record Tries (attempts most : ℕ) (change : Change) (stands : Stands) (old : BusView) (result : Result Session Broken)
    (new : BusView) : Type 0 where
  pub info : lasting (info_of (stands_of result)) ≡ lasting (info_of stands)
  pub bounded : new.exchanges ≤ old.exchanges + attempts * most
  pub kept : new.is_kept ≡ true → old.is_kept ≡ true
  pub cause : IfErr result (λ broken. IsCausedIn ((attempts - 1) * most) broken old new)
  pub tried : new.is_kept ≡ true → StandsIn stands old → HasTried attempts change old result new
