use Rattle.std.proofs.Common.{◌≡◌, Bool, refl}
use Rattle.std.specs.Prelude.{if◌then◌else◌}
use Rattle.mmc_frame.specs.declared.card_state.State.TheVariants.{Data}
use Rattle.mmc_bus.proofs.CommandLemmas.{stops}
use Rattle.mmc_bus.proofs.transfer_laws.cmd12_ends_a_transfer.Goals as goal
use Rattle.mmc_card.specs.Card.{Card}
use Rattle.mmc_card.specs.CardAnswer.{busied}
use Rattle.mmc_card.specs.RowsTransfer.{ended, stopped}

from_data : (stays_busy : Bool) (card : Card) → card.state ≡ Data
    → stopped stays_busy card ≡ (if stays_busy then busied (ended card) else ended card)
from_data stays_busy card is = rw is refl

pub returns : goal.returns
returns c = record {
  does = λ old new argument heard facts k. stops old argument heard new facts k;
  from_data = from_data;
  from_rcv = λ stays_busy card is. rw is refl;
}
