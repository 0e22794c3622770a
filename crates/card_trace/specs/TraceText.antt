-- A trace with words after its lines, or as JSON.
use Rattle.std.specs.Prelude.{◌++◌, ◌∷◌, List, None, Option, Some, [], codes, false, ℕ}
use Rattle.mmc_card.specs.declared.exchange.Exchange.{Exchange}
use Rattle.card_explain.specs.Exchanges.{announces, card_explain}
use Rattle.card_explain.specs.Explained.{padded}
use Rattle.card_explain.specs.declared.exchange.KnownCard.{KnownCard}
use Rattle.card_explain.specs.declared.line.TheConstants.{COLUMN}
use Rattle.card_json.specs.Exchanges.{exchange_line}
use Rattle.card_text.specs.Parts.{parts, without_feed}
use Rattle.card_text.specs.Script.{lines}
use Rattle.card_trace.specs.ExchangeLines.{exchange_of}
use Rattle.card_trace.specs.Known.{known_after as known_by}
use Rattle.card_trace.specs.declared.lines.Form.{Form}
use Rattle.card_trace.specs.declared.lines.Form.TheVariants.{Objects, Words}
use Rattle.card_trace.specs.declared.lines.Reading.{Reading}

-- what is known after a line: another line than an exchange's changes nothing
abbrev pub read_on : Reading → Option Exchange → Reading
read_on reading None = reading
read_on reading (Some exchange) =
    record { card = known_by reading.card exchange; is_app = announces exchange }

-- a line, and after it the exchange in words, by what it tells of the card itself too; another line stays as it is
abbrev pub words_of : Reading → List ℕ → Option Exchange → List ℕ
words_of reading line None = line
words_of reading line (Some exchange) =
    padded COLUMN line ++ (codes " " ++ card_explain (known_by reading.card exchange) reading.is_app exchange)

-- an exchange as an object on a line, likewise; nothing for another line
abbrev pub object_of : Reading → Option Exchange → List ℕ
object_of reading None = []
object_of reading (Some exchange) = exchange_line (known_by reading.card exchange) reading.is_app exchange

-- what is said of a line
unfoldable pub said_of : Form → Reading → List ℕ → Option Exchange → List ℕ
said_of Words reading line exchange = words_of reading line exchange ++ 10 ∷ []
said_of Objects reading line exchange = object_of reading exchange

-- each line by what the lines before it tell of the card
unfoldable pub said_from : Form → Reading → List (List ℕ) → List ℕ
said_from form reading [] = []
said_from form reading (line ∷ lines) =
    said_of form reading line (exchange_of (parts 32 line))
    ++ said_from form (read_on reading (exchange_of (parts 32 line))) lines

-- what is said of a trace, of whose card this is known before
abbrev pub trace_text : Form → KnownCard → List ℕ → List ℕ
trace_text form card text = said_from form (record { card = card; is_app = false }) (lines (without_feed text))
