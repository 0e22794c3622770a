-- What a whole run does.
use Rattle.std.specs.Prelude.{◌-◌, Err, Ok, Result, ℕ}
use Rattle.mmc_card.specs.BusView.{BusView}
use Rattle.mmc_card.specs.Card.{holds}
use Rattle.mmc_card.specs.Sectors.{Same, Within, changed, maybe_changed}
use Rattle.mmc_bus.specs.Learned.{Stays}
use Rattle.mmc_switch.specs.Place.{IsReady}
use Rattle.mmc_switch.specs.UnderWay.{HasFailed}
use Rattle.mmc_switch.specs.declared.broken.Broken.{Broken}
use Rattle.mmc_switch.specs.declared.session.Session.{Session}
use Rattle.mmc_erase.specs.Job.{erased}

-- Done: the card is ready, and exactly the named sectors are erased. Failed: a fault fell.
abbrev pub RunLeaves : Session → ℕ → ℕ → BusView → Result Session Broken → BusView → Type 0
RunLeaves session start count old (Ok ready) new =
    IsReady ready new × Same (holds new.card) (changed (erased session start count) (holds old.card))
RunLeaves session start count old (Err broken) new = HasFailed broken (new.faults - old.faults) new

-- Each named sector is as before or erased, and no other sector has changed.
pub record HasErased (session : Session) (start count : ℕ) (old : BusView) (result : Result Session Broken)
    (new : BusView) : Type 0 where
  pub stays : Stays old new
  pub within : Within (holds new.card) (maybe_changed (erased session start count) (holds old.card))
  pub leaves : RunLeaves session start count old result new
