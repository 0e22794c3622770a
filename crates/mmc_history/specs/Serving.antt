-- What a device with its history keeps true: to the calls so far some machine with own faults has come, and the device agrees with it.
use Rattle.std.specs.Prelude.{◌≡◌, Bool, List, true}
use Rattle.mmc_card.specs.BusView.{BusView}
use Rattle.mmc_card.specs.Card.{holds}
use Rattle.mmc_card.specs.Laws.{Carried}
use Rattle.mmc_card.specs.Profile.{InProfile}
use Rattle.mmc_block.specs.ClientLaws.{events, replies}
use Rattle.mmc_block.specs.Clients.{Told}
use Rattle.mmc_block.specs.Device.{AgreesCounted, DeviceView}
use Rattle.mmc_block.specs.Execution.{Counted, IsCountedExecution, opened_after}
use Rattle.mmc_block.specs.InOrder.{AreDecided}

-- where the card is in profile, if that is asked for
pub record Agreed {B : Type 0} (view : B → BusView) (opened : BusView) (device : DeviceView B) (calls : List Told) (profile : Bool)
    : Type 0 where
  pub counted : Counted
  pub executed : IsCountedExecution device.info (opened_after opened.faults profile (holds opened.card)) (events calls) (replies calls) counted
  pub agrees : AgreesCounted view device counted

pub record IsServing {B : Type 0} (view : B → BusView) (opened : BusView) (device : DeviceView B) (calls : List Told) : Type 0 where
  pub decided : AreDecided (holds opened.card)
  pub carried : Carried opened.card (view device.bus).card
  pub agreed : (profile : Bool) → (profile ≡ true → InProfile opened.card.made) → Agreed view opened device calls profile
