-- What the commands of an erase do, and where they can be sent.
use Rattle.std.specs.Prelude.{◌≡◌, false, ℕ}
use Rattle.mmc_frame.specs.declared.card_state.State.TheVariants.{Tran}
use Rattle.mmc_frame.specs.declared.commands.TheConstants as Index
use Rattle.mmc_frame.specs.declared.kind.Kind.{Kind}
use Rattle.mmc_frame.specs.declared.kind.Kind.TheVariants.{Mmc, Sd}
use Rattle.mmc_card.specs.Card.{Both, Card, Held}
use Rattle.mmc_card.specs.CardLaws.{HasNoError}
use Rattle.mmc_card.specs.Laws.{IsStill}
use Rattle.mmc_card.specs.RowsErase.{is_no_range}
use Rattle.mmc_erase.specs.declared.how.How.{How}
use Rattle.mmc_erase.specs.declared.how.How.TheVariants.{Erase, Trim}

-- CMD32 of SD, CMD35 of eMMC
abbrev pub first_index : Kind → ℕ
first_index Sd = Index.ERASE_WR_BLK_START
first_index Mmc = Index.ERASE_GROUP_START

-- CMD33 of SD, CMD36 of eMMC
abbrev pub last_index : Kind → ℕ
last_index Sd = Index.ERASE_WR_BLK_END
last_index Mmc = Index.ERASE_GROUP_END

-- CMD38 erases with 0, and trims with 1
abbrev pub argument_of : How → ℕ
argument_of Erase = 0
argument_of Trim = 1

-- a card in tran that holds this of the sequence, in which nothing goes on, and shows no error in its R1
pub record CanHold (kind : Kind) (held : Held) (card : Card) : Type 0 where
  pub is_still : IsStill card
  pub is_kind : card.made.kind ≡ kind
  pub tran : card.state ≡ Tran
  pub erase : card.erase ≡ held
  pub no_error : HasNoError kind card

-- one that holds both addresses of a range
pub record CanErase (kind : Kind) (first last : ℕ) (card : Card) : Type 0 where
  pub holds : CanHold kind (Both first last) card
  pub range : is_no_range card first last ≡ false
