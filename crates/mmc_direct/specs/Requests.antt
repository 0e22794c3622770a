-- What a request does with the card.
use Rattle.std.specs.Prelude.{◌+◌, ◌≤◌, IfOk, List, ℕ}
use Rattle.mmc_bus.specs.Learned.{Stays}
use Rattle.mmc_bus.specs.Work.{Narrows}
use Rattle.mmc_card.specs.BusView.{BusView}
use Rattle.mmc_card.specs.Card.{holds}
use Rattle.mmc_card.specs.Profile.{InProfile}
use Rattle.mmc_card.specs.Sectors.{AreRead, Change, Sector, Sets, Within, maybe_changed}
use Rattle.mmc_card.specs.declared.part.Part.{Part}
use Rattle.mmc_requests.specs.Changes.{TakesEffect}
use Rattle.mmc_direct.specs.Served.{IfFailed}
use Rattle.mmc_switch.specs.Stands.{StandsIn}
use Rattle.mmc_direct.specs.declared.served.Served.{Served}

-- A request that makes this change in so many attempts at most: a write, an erase or a trim. A read's change is one of no sector.
pub record HasChanged (attempts : ℕ) (change : Change) (old : BusView) (served : Served) (new : BusView) : Type 0 where
  -- the same card, with no fewer faults
  pub stays : Stays old new
  -- it stands as is known of it
  pub stands : StandsIn served.stands new
  -- whatever the answer, each sector that is named is old or new, and no other may hold more
  pub within : Within (holds new.card) (maybe_changed change (holds old.card))
  -- done: each sector that is named holds its new value alone
  pub done : IfOk served.answer (λ _. TakesEffect change (holds old.card) (holds new.card))
  -- failed: on a card in profile as many faults fell
  pub failed : InProfile old.card.made → IfFailed served.answer (λ _. old.faults + attempts ≤ new.faults)

-- A request of any kind: it makes this change, and this is true of it once it is done, by what sectors may hold.
pub record Serves (attempts : ℕ) (change : Change) (Has : Sets → Type 0) (old : BusView) (served : Served) (new : BusView) : Type 0 where
  pub changed : HasChanged attempts change old served new
  pub has : IfOk served.answer (λ _. Has (holds new.card))

-- A read into these blocks, in so many attempts at most.
pub record HasRead (attempts : ℕ) (part : Part) (start : ℕ) (blocks : List Sector) (old : BusView) (served : Served)
    (new : BusView) : Type 0 where
  pub stays : Stays old new
  pub stands : StandsIn served.stands new
  -- whatever the answer, no sector may hold more
  pub narrows : Narrows old new
  -- done: the blocks are what the sectors may hold
  pub done : IfOk served.answer (λ _. AreRead (holds new.card) part start blocks)
  -- failed: on a card in profile as many faults fell
  pub failed : InProfile old.card.made → IfFailed served.answer (λ _. old.faults + attempts ≤ new.faults)
