-- How a card stands between two runs: ready, or broken.
use Rattle.std.specs.Prelude.{Err, Ok, Result}
use Rattle.mmc_card.specs.BusView.{BusView}
use Rattle.mmc_switch.specs.Place.{IsBroken, IsReady}
use Rattle.mmc_switch.specs.declared.broken.Broken.{Broken}
use Rattle.mmc_switch.specs.declared.info.Info.{Info}
use Rattle.mmc_switch.specs.declared.session.Session.{Session}
use Rattle.mmc_switch.specs.declared.stands.Stands.{Stands}

-- what is known of the card
abbrev pub info_of : Stands → Info
info_of (Stands.Ready session) = session.info
info_of (Stands.Broken broken) = broken.session.info

-- the card is ready as its session says, or broken
abbrev pub StandsIn : Stands → BusView → Type 0
StandsIn (Stands.Ready session) view = IsReady session view
StandsIn (Stands.Broken broken) view = IsBroken broken view

-- where the card is broken, this holds of its failure
abbrev pub IfBroken : Stands → (Broken → Type 0) → Type 0
IfBroken (Stands.Ready session) Holds = Unit {0}
IfBroken (Stands.Broken broken) Holds = Holds broken

-- what came of an attempt: done, the card is ready; failed, it is broken
abbrev pub stands_of : Result Session Broken → Stands
stands_of (Ok session) = Stands.Ready session
stands_of (Err broken) = Stands.Broken broken
