-- What a whole run does.
use Rattle.std.specs.Prelude.{◌-◌, Err, List, Ok, Result, ℕ}
use Rattle.mmc_card.specs.BusView.{BusView}
use Rattle.mmc_card.specs.Card.{holds}
use Rattle.mmc_card.specs.Sectors.{AreRead, Same, Sector, Within, changed, maybe_changed}
use Rattle.mmc_bus.specs.Learned.{Stays}
use Rattle.mmc_switch.specs.Place.{IsReady}
use Rattle.mmc_switch.specs.UnderWay.{HasFailed, part_of}
use Rattle.mmc_switch.specs.declared.broken.Broken.{Broken}
use Rattle.mmc_switch.specs.declared.session.Session.{Session}
use Rattle.mmc_transfer.specs.Running.{by_way, change_for}
use Rattle.mmc_transfer.specs.declared.way.Way.{Way}

-- Done: the card is ready, exactly the sectors of a write have changed, and what was read is what the sectors hold.
-- Failed: a fault fell.
abbrev pub RunLeaves : Session → ℕ → Way → List Sector → BusView → Result Session Broken → BusView → Type 0
RunLeaves session start way blocks old (Ok ready) new =
    IsReady ready new × Same (holds new.card) (changed (change_for session start way blocks) (holds old.card))
    × by_way way (AreRead (holds new.card) (part_of session) start blocks) (Unit {0})
RunLeaves session start way blocks old (Err broken) new = HasFailed broken (new.faults - old.faults) new

-- Each sector that a write names is old or new, and no other sector has changed.
pub record HasRun (session : Session) (start : ℕ) (way : Way) (blocks : List Sector) (old : BusView)
    (result : Result Session Broken) (new : BusView) : Type 0 where
  pub stays : Stays old new
  pub within : Within (holds new.card) (maybe_changed (change_for session start way blocks) (holds old.card))
  pub leaves : RunLeaves session start way blocks old result new
