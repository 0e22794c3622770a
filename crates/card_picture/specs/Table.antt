-- Exchanges in words, as rows of a table in HTML.
use Rattle.std.specs.Prelude.{ℕ, List, [], ◌∷◌, ◌++◌, codes, if◌then◌else◌}
use Rattle.std.specs.Fmt.{decimal}
use Rattle.mmc_bus.specs.ExchangeText.{exchange_text}
use Rattle.card_explain.specs.Exchanges.{card_explain}
use Rattle.card_explain.specs.declared.exchange.KnownCard.{KnownCard}
use Rattle.card_explain.specs.declared.settling.Phase.{Phase}
use Rattle.card_explain.specs.declared.settling.Phase.TheVariants.{Identification, Settling, Transfer}
use Rattle.card_explain.specs.declared.step.Step.{Step}
use Rattle.card_picture.specs.Escapes.{escaped}
use Rattle.card_picture.specs.Faults.{fault_words, has_fallen}

-- a cell with words
unfoldable pub cell_text : List ℕ → List ℕ
cell_text words = codes "<td>" ++ (escaped words ++ codes "</td>")

-- what a row is called by its phase
abbrev pub phase_name : Phase → List ℕ
phase_name Identification = codes "identification"
phase_name Transfer = codes "transfer"
phase_name Settling = codes "settling"

-- a row begins: its phase, whether a fault has fallen, and the number of its exchange
unfoldable pub number_cell : Step → List ℕ
number_cell step =
    codes "<tr class='" ++ (phase_name step.phase
    ++ ((if has_fallen step.numbered.note then codes " f'><td>" else codes "'><td>")
    ++ (decimal step.numbered.number ++ codes "</td>")))

-- the number of an exchange, its line in a trace, its words, and the fault that was planned for it
unfoldable pub table_row : KnownCard → Step → List ℕ
table_row card step =
    number_cell step
    ++ (cell_text (exchange_text step.numbered.exchange)
    ++ (cell_text (card_explain card step.is_app step.numbered.exchange)
    ++ (cell_text (fault_words step.numbered.note) ++ codes "</tr>\n")))

-- a row for each exchange
unfoldable pub table_rows : KnownCard → List Step → List ℕ
table_rows card [] = []
table_rows card (step ∷ others) = table_row card step ++ table_rows card others
