-- What a status says of its card, and what is unfinished in it.
use Rattle.std.specs.Prelude.{◌≡◌, false}
use Rattle.mmc_frame.specs.declared.card_state.State.TheVariants.{Tran}
use Rattle.mmc_frame.specs.declared.kind.Kind.{Kind}
use Rattle.mmc_frame.specs.declared.kind.Kind.TheVariants.{Mmc}
use Rattle.mmc_card.specs.Card.{Card}

-- What a status tells when its errors are judged by this kind, of what is so in its card: what it tells is so, and of a card
-- of that kind it tells what is so. (The mask of eMMC has bit 7, which an SD card may show as it likes.)
abbrev pub Tells : Kind → Card → Type 0 → Type 0 → Type 0
Tells kind card told is = (told → is) × (card.made.kind ≡ kind → is → told)

-- no error bit is held; of eMMC, SWITCH_ERROR is one of them
pub record HasNoError (kind : Kind) (card : Card) : Type 0 where
  pub command_errors : card.command_errors ≡ 0
  pub errors : card.errors ≡ 0
  pub switch_error : kind ≡ Mmc → card.made.kind ≡ Mmc → card.switch_error ≡ false

-- no error bit is held but those of an earlier command
pub record HasNoErrorOfItsOwn (kind : Kind) (card : Card) : Type 0 where
  pub errors : card.errors ≡ 0
  pub switch_error : kind ≡ Mmc → card.made.kind ≡ Mmc → card.switch_error ≡ false

-- what a status that is clean but for errors of an earlier command says of a card
pub record IsInOrder (kind : Kind) (card : Card) : Type 0 where
  pub no_error : HasNoErrorOfItsOwn kind card
  pub tran : card.state ≡ Tran
  pub rests : card.is_busy ≡ false
