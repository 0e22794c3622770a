-- What is noted of a card that was opened.
use Rattle.mmc_card.specs.BusView.{BusView}
use Rattle.mmc_record.specs.Note.{IsNoteOf}
use Rattle.mmc_record.specs.declared.record.CardRecord.{CardRecord}
use Rattle.mmc_switch.specs.KnownFaults.{heeding}
use Rattle.mmc_switch.specs.Place.{IsInitialized, IsReady}
use Rattle.mmc_switch.specs.declared.session.Session.{Session}
use Rattle.mmc_switch.specs.declared.stands.Stands.TheVariants as Stands

-- a session in which nothing is used that the card is known to do wrong
abbrev pub heedful : Session → Session
heedful session = record session { info = heeding session.info }

-- the card is initialized and ready, as the record says, which uses nothing that the card is known to do wrong
pub record IsReadyAs (note : CardRecord) (view : BusView) : Type 0 where
  pub session : Session
  pub initialized : IsInitialized session view
  pub says : IsNoteOf (Stands.Ready (heedful session)) note
  pub ready : IsReady (heedful session) view
