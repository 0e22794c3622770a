-- The column of an exchange in a timing diagram: what it shows of the lines CMD and DAT.
use Rattle.std.specs.Prelude.{ℕ, ◌+◌, ◌*◌, ◌==◌, not, Bool, false, true, List, [], ◌++◌, codes, if◌then◌else◌, Option}
use Rattle.std.specs.Fmt.{decimal}
use Rattle.std.specs.List.{take_while}
use Rattle.mmc_card.specs.declared.exchange.DataIn.{DataIn}
use Rattle.mmc_card.specs.declared.exchange.DataIn.TheVariants as Received
use Rattle.mmc_card.specs.declared.exchange.DataOut.{DataOut}
use Rattle.mmc_card.specs.declared.exchange.DataOut.TheVariants as Sent
use Rattle.mmc_card.specs.declared.exchange.Exchange.{Exchange}
use Rattle.mmc_card.specs.declared.exchange.Exchange.TheVariants.{Busy, Command, In, Out}
use Rattle.mmc_card.specs.declared.exchange.Reply.{Reply}
use Rattle.mmc_card.specs.declared.exchange.Reply.TheVariants.{Long, Short, Silent}
use Rattle.mmc_card.specs.declared.exchange.Want.{Want}
use Rattle.mmc_card.specs.declared.exchange.Want.TheVariants as Wanted
use Rattle.card_explain.specs.Exchanges.{card_explain}
use Rattle.card_explain.specs.Halves.{command_half, reply_half}
use Rattle.card_explain.specs.declared.exchange.KnownCard.{KnownCard}
use Rattle.card_explain.specs.declared.line.Note.{Note}
use Rattle.card_explain.specs.declared.settling.Phase.{Phase}
use Rattle.card_explain.specs.declared.settling.Phase.TheVariants.{Identification, Settling, Transfer}
use Rattle.card_explain.specs.declared.step.Step.{Step}
use Rattle.card_picture.specs.Escapes.{escaped}
use Rattle.card_picture.specs.Faults.{fault_words, has_fallen}
use Rattle.card_picture.specs.Rows.{label_text}
use Rattle.card_picture.specs.declared.column.TheConstants.{LEFT, WIDTH}

-- a text up to the first such byte
unfoldable pub up_to : ℕ → List ℕ → List ℕ
up_to end text = take_while (λ byte. not (byte == end)) text

-- a column begins at its place, from the left
unfoldable pub column_front : ℕ → Bool → List ℕ
column_front place fell =
    codes "<svg x='" ++ (decimal (LEFT + WIDTH * place)
    ++ (if fell then codes "' width='150' class='f'>" else codes "' width='150'>"))

-- the band behind a column
abbrev pub column_band : Phase → List ℕ
column_band Identification = codes "<use href='#t-identification'/>"
column_band Transfer = []
column_band Settling = codes "<use href='#t-settling'/>"

-- the number of an exchange, and its words, which a viewer shows where it is pointed at
unfoldable pub column_head : ℕ → List ℕ → List ℕ
column_head number words =
    codes "<title>" ++ (escaped words ++ (codes "</title><text x='6' y='16' class='n'>#" ++ (decimal number ++ codes "</text>")))

-- nothing came
abbrev pub silence_box : Want → List ℕ
silence_box Wanted.Nothing = []
silence_box Wanted.Short = codes "<use href='#t-lost'/>"
silence_box Wanted.Long = codes "<use href='#t-lost'/>"

abbrev pub response_box : List ℕ → List ℕ
response_box words =
    label_text (codes "<use href='#t-response'/><text x='92' y='47'>") (up_to 58 words)

-- what came back, by its first word
abbrev pub reply_box : Want → Reply → List ℕ → List ℕ
reply_box want Silent words = silence_box want
reply_box want (Short frame) words = response_box words
reply_box want (Long frame) words = response_box words

-- the frame of a command, by its first word
abbrev pub command_box : List ℕ → List ℕ
command_box words = label_text (codes "<use href='#t-command'/><text x='12' y='47'>") (up_to 32 words)

-- the frames of a command and its response, on CMD
unfoldable pub command_column : KnownCard → Bool → List ℕ → Want → Reply → List ℕ
command_column card is_app frame want reply =
    command_box (command_half card is_app frame) ++ reply_box want reply (reply_half card is_app frame reply)

abbrev pub received_box : DataIn → List ℕ
received_box Received.Good = codes "<use href='#t-in'/>"
received_box Received.Bad = codes "<use href='#t-bad'/>"
received_box Received.Nothing = codes "<use href='#t-missing'/>"

abbrev pub sent_box : DataOut → List ℕ
sent_box Sent.Accepted = codes "<use href='#t-out'/><use href='#t-accepted'/>"
sent_box Sent.Rejected = codes "<use href='#t-out'/><use href='#t-rejected'/>"
sent_box Sent.Nothing = codes "<use href='#t-out'/><use href='#t-unsaid'/>"

abbrev pub poll_box : Bool → List ℕ
poll_box true = codes "<use href='#t-busy'/>"
poll_box false = codes "<use href='#t-idle'/>"

-- what an exchange shows of the lines
abbrev pub column_body : KnownCard → Bool → Exchange → List ℕ
column_body card is_app (Command frame want reply) = command_column card is_app frame want reply
column_body card is_app (In len got) = received_box got
column_body card is_app (Out got) = sent_box got
column_body card is_app (Busy said) = poll_box said

-- the fault that was planned, and the end of the column
unfoldable pub column_end : Option Note → List ℕ
column_end note = label_text (codes "<text x='6' y='116' class='w'>") (fault_words note) ++ codes "</svg>\n"

-- the column at this place: the band of its phase, its number, its boxes, and the fault that was planned for it
unfoldable pub column_text : KnownCard → ℕ → Step → List ℕ
column_text card place step =
    column_front place (has_fallen step.numbered.note)
    ++ (column_band step.phase
    ++ (column_head step.numbered.number (card_explain card step.is_app step.numbered.exchange)
    ++ (column_body card step.is_app step.numbered.exchange ++ column_end step.numbered.note)))
