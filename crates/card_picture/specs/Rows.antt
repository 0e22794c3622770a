-- The row of an exchange in a sequence diagram.
use Rattle.std.specs.Prelude.{ℕ, ◌+◌, ◌*◌, Bool, List, [], ◌++◌, codes, if◌then◌else◌, Option, None, Some}
use Rattle.std.specs.Fmt.{decimal}
use Rattle.mmc_card.specs.declared.exchange.Exchange.{Exchange}
use Rattle.mmc_card.specs.declared.exchange.Exchange.TheVariants.{Command, Out}
use Rattle.mmc_card.specs.declared.exchange.Reply.{Reply}
use Rattle.mmc_card.specs.declared.exchange.Want.{Want}
use Rattle.card_explain.specs.Exchanges.{card_explain}
use Rattle.card_explain.specs.Halves.{command_half, reply_half}
use Rattle.card_explain.specs.declared.exchange.KnownCard.{KnownCard}
use Rattle.card_explain.specs.declared.line.Note.{Note}
use Rattle.card_explain.specs.declared.settling.Phase.{Phase}
use Rattle.card_explain.specs.declared.settling.Phase.TheVariants.{Identification, Settling, Transfer}
use Rattle.card_explain.specs.declared.step.Step.{Step}
use Rattle.card_picture.specs.Arrows.{command_arrow, data_arrow, is_unseen, reply_arrow}
use Rattle.card_picture.specs.Escapes.{escaped}
use Rattle.card_picture.specs.Faults.{fault_words, has_fallen}
use Rattle.card_picture.specs.declared.row.TheConstants.{HEIGHT, TOP}

-- words in an element that begins so
unfoldable pub label_text : List ℕ → List ℕ → List ℕ
label_text front words = front ++ (escaped words ++ codes "</text>")

-- a row begins at its place, from the top
unfoldable pub open_text : ℕ → Bool → List ℕ
open_text place fell =
    codes "<g transform='translate(0," ++ (decimal (TOP + HEIGHT * place)
    ++ (if fell then codes ")' class='f'>" else codes ")'>"))

-- the band behind a row
abbrev pub band_text : Phase → List ℕ
band_text Identification = codes "<use href='#identification'/>"
band_text Transfer = []
band_text Settling = codes "<use href='#settling'/>"

unfoldable pub number_text : ℕ → List ℕ
number_text number = codes "<text x='84' y='25' class='n'>#" ++ (decimal number ++ codes "</text>")

-- a command above, and what came back of it below
unfoldable pub command_row : KnownCard → Step → List ℕ → Want → Reply → List ℕ
command_row card step frame want reply =
    command_arrow (is_unseen step.numbered.note)
    ++ (label_text (codes "<text x='342' y='15'>") (command_half card step.is_app frame)
    ++ (reply_arrow (is_unseen step.numbered.note) want reply
    ++ label_text (codes "<text x='818' y='34' class='e'>") (reply_half card step.is_app frame reply)))

-- the words of a block or a poll begin where it does
abbrev pub data_front : Exchange → List ℕ
data_front (Out got) = codes "<text x='342' y='22'>"
data_front exchange = codes "<text x='818' y='22' class='e'>"

unfoldable pub data_row : KnownCard → Step → List ℕ
data_row card step =
    data_arrow step.numbered.exchange
    ++ label_text (data_front step.numbered.exchange) (card_explain card step.is_app step.numbered.exchange)

abbrev pub exchange_row : KnownCard → Step → Exchange → List ℕ
exchange_row card step (Command frame want reply) = command_row card step frame want reply
exchange_row card step exchange = data_row card step

unfoldable pub fault_label : Option Note → List ℕ
fault_label None = []
fault_label (Some note) =
    label_text (codes "<text x='844' y='26' class='w'>") (fault_words (Some note))

-- the row at this place: the band of its phase, its number, its arrows with their words, and the fault that was planned for it
unfoldable pub row_text : KnownCard → ℕ → Step → List ℕ
row_text card place step =
    open_text place (has_fallen step.numbered.note)
    ++ (band_text step.phase
    ++ (number_text step.numbered.number
    ++ (exchange_row card step step.numbered.exchange
    ++ (fault_label step.numbered.note ++ codes "</g>\n"))))
