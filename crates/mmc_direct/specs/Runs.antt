-- What a run of a request does with the card.
use Rattle.std.specs.Prelude.{◌<◌, IfErr, IfOk, Result}
use Rattle.mmc_bus.specs.Learned.{Stays}
use Rattle.mmc_card.specs.BusView.{BusView}
use Rattle.mmc_card.specs.Card.{holds}
use Rattle.mmc_card.specs.Sectors.{Change, Same, Within, changed, maybe_changed}
use Rattle.mmc_switch.specs.Place.{IsBroken, IsReady}
use Rattle.mmc_switch.specs.declared.broken.Broken.{Broken}
use Rattle.mmc_switch.specs.declared.session.Session.{Session}

-- A run was made, of any kind, on a card that was ready.
pub record HasMade (change : Change) (old : BusView) (result : Result Session Broken) (new : BusView) : Type 0 where
  -- the same card, with no fewer faults
  pub stays : Stays old new
  -- whatever the answer, each sector that is named is old or new, and no other may hold more
  pub within : Within (holds new.card) (maybe_changed change (holds old.card))
  -- done: the card is ready, and each sector that is named has changed
  pub done : IfOk result (λ session. IsReady session new × Same (holds new.card) (changed change (holds old.card)))
  -- failed: it is broken, and a fault fell
  pub failed : IfErr result (λ broken. IsBroken broken new × (old.faults < new.faults))
