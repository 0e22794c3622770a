-- What a controller is told of a command fits what a card does with it.
use Rattle.std.specs.Prelude.{◌≡◌, ◌⊎◌, None, Option, Some, false, length, true, ℕ}
use Rattle.mmc_frame.specs.declared.card_state.State.TheVariants as In
use Rattle.mmc_card.specs.Card.{Card, FromBytes, FromSectors, Source, is_in}
use Rattle.mmc_card.specs.CardAnswer.{CardAnswer, Checked, Silent, R2, R3}
use Rattle.mmc_host.specs.declared.data.Data.{Data}
use Rattle.mmc_host.specs.declared.data.Data.TheVariants as After
use Rattle.mmc_card.specs.declared.response.Response.{Response}
use Rattle.mmc_card.specs.declared.response.Response.TheVariants as To

-- the answer is such a response, to the command with this index, or none
abbrev pub IsAnswered : Response → ℕ → CardAnswer → Type 0
IsAnswered response index Silent = Unit {0}
IsAnswered To.R2 index (R2 register) = Unit {0}
IsAnswered To.R3 index (R3 ocr) = Unit {0}
IsAnswered To.R1 index (Checked other argument) = other ≡ index
IsAnswered To.R1b index (Checked other argument) = other ≡ index
IsAnswered To.R6 index (Checked other argument) = other ≡ index
IsAnswered To.R7 index (Checked other argument) = other ≡ index
IsAnswered response index answer = ⊥

-- a card that is busy was so before, but after an R1b
abbrev pub IsBusyAfter : Response → Card → Card → Type 0
IsBusyAfter response old new = new.is_busy ≡ true → (old.is_busy ≡ true) ⊎ (response ≡ To.R1b)

-- so many blocks are to come, or more until the card is stopped
abbrev pub AreToCome : ℕ → Option ℕ → Type 0
AreToCome count None = Unit {0}
AreToCome count (Some left) = left ≡ count

-- the card sends blocks of this length, so many
abbrev pub AreSent : ℕ → ℕ → Source → Option ℕ → Type 0
AreSent size blocks FromSectors left = (size ≡ 512) × AreToCome blocks left
AreSent size blocks (FromBytes bytes timing) left = (length bytes ≡ size) × (blocks ≡ 1)

-- The data after the command: a card begins to send just these blocks, or to accept just these.
abbrev pub Begins : Data → Card → Type 0
Begins After.Nothing card = ⊥
Begins (After.Read size blocks) card = (is_in card.state In.Data ≡ true) × AreSent size blocks card.source card.left
Begins (After.Write blocks) card = (is_in card.state In.Rcv ≡ true) × AreToCome blocks card.left

-- where it sends or accepts blocks, it did before, or it is with this command
pub record HasDataAfter (told : Data) (old new : Card) : Type 0 where
  pub sends : is_in new.state In.Data ≡ true → is_in old.state In.Data ≡ false → Begins told new
  pub accepts : is_in new.state In.Rcv ≡ true → is_in old.state In.Rcv ≡ false → Begins told new
