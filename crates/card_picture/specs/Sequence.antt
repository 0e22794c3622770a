-- A sequence diagram.
use Rattle.std.specs.Prelude.{ℕ, ◌+◌, ◌*◌, List, [], ◌∷◌, ◌++◌, codes, length, nat_le, nat_lt}
use Rattle.std.specs.List.{count_by}
use Rattle.std.specs.Fmt.{decimal}
use Rattle.card_explain.specs.declared.exchange.KnownCard.{KnownCard}
use Rattle.card_explain.specs.declared.step.Step.{Step}
use Rattle.card_picture.specs.Messages.{message_row}
use Rattle.card_picture.specs.Rows.{row_text}
use Rattle.card_picture.specs.declared.message.Message.{Message}
use Rattle.card_picture.specs.declared.row.TheConstants.{HEIGHT, TOP}
use Rattle.card_picture.specs.declared.sequence.TheConstants.{HEAD, SYMBOLS}

-- how high a diagram of so many rows is
abbrev pub height_of : ℕ → ℕ
height_of rows = TOP + (HEIGHT * rows + 12)

-- the element of the picture, with its size, and what the rows draw with
unfoldable pub front_text : ℕ → List ℕ
front_text rows =
    HEAD.now ++ (decimal (height_of rows) ++ (codes "' viewBox='0 0 1050 " ++ (decimal (height_of rows) ++ SYMBOLS.now)))

-- how many messages stand before the exchange with this number
abbrev pub messages_before : List Message → ℕ → ℕ
messages_before messages number = count_by (λ message. nat_le message.after number) messages

-- how many exchanges stand before a message that was said after so many
abbrev pub exchanges_before : List Step → ℕ → ℕ
exchanges_before steps after = count_by (λ step. nat_lt step.numbered.number after) steps

-- a row for each exchange, below the exchanges above it, which are so many, and the messages before it
unfoldable pub rows_from : KnownCard → List Message → ℕ → List Step → List ℕ
rows_from card messages place [] = []
rows_from card messages place (step ∷ others) =
    row_text card (place + messages_before messages step.numbered.number) step ++ rows_from card messages (place + 1) others

-- a row for each message, below the messages above it, which are so many, and the exchanges before it
unfoldable pub messages_from : List Step → ℕ → List Message → List ℕ
messages_from steps place [] = []
messages_from steps place (message ∷ others) =
    message_row (place + exchanges_before steps message.after) message ++ messages_from steps (place + 1) others

unfoldable pub sequence_text : KnownCard → List Step → List Message → List ℕ
sequence_text card steps messages =
    front_text (length steps + length messages)
    ++ (rows_from card messages 0 steps ++ (messages_from steps 0 messages ++ codes "</svg>\n"))
