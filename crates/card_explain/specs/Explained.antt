-- A line of a trace with words after it.
use Rattle.std.specs.Prelude.{ℕ, ◌-◌, Bool, List, false, [], ◌∷◌, ◌++◌, codes, drop, if◌then◌else◌, length, replicate, take, Option, None, Some}
use Rattle.mmc_bus.specs.ExchangeText.{exchange_text}
use Rattle.std.specs.Fmt.{decimal}
use Rattle.card_explain.specs.Exchanges.{card_explain}
use Rattle.card_explain.specs.Faults.{fault_text}
use Rattle.card_explain.specs.declared.exchange.KnownCard.{KnownCard}
use Rattle.card_explain.specs.declared.line.Note.{Note}
use Rattle.card_explain.specs.declared.line.Numbered.{Numbered}
use Rattle.card_explain.specs.declared.line.TheConstants.{COLUMN}
use Rattle.card_explain.specs.declared.settling.Phase.{Phase}
use Rattle.card_explain.specs.declared.settling.Phase.TheVariants.{Identification, Settling, Transfer}
use Rattle.card_explain.specs.declared.step.Step.{Step}
use Rattle.card_explain.specs.Settling.{steps_from}

-- a line without its line feed
abbrev pub front_of : List ℕ → List ℕ
front_of line = take (length line - 1) line

-- a text with spaces after it, up to this column
abbrev pub padded : ℕ → List ℕ → List ℕ
padded column text = text ++ replicate (column - length text) 32

-- a planned fault, and whether it fell
unfoldable pub note_words : Option Note → List ℕ
note_words None = []
note_words (Some note) = (if note.fell then codes "; fault: " else codes "; doesn't fit: ") ++ fault_text note.fault

-- that a card is settled by an exchange, or was by those before it
abbrev pub phase_words : Phase → Bool → List ℕ
phase_words Settling is_settled = codes "settling: "
phase_words Identification is_settled = if is_settled then codes "settled: " else []
phase_words Transfer is_settled = if is_settled then codes "settled: " else []

-- the line of an exchange, its number, its phase, the exchange in words, and the fault that was planned for it
unfoldable pub explained : KnownCard → Step → List ℕ
explained card step =
    padded COLUMN (front_of (exchange_text step.numbered.exchange))
    ++ (codes " #" ++ (decimal step.numbered.number ++ (codes " " ++ (phase_words step.phase step.is_settled
    ++ (card_explain card step.is_app step.numbered.exchange ++ (note_words step.numbered.note ++ (10 ∷ [])))))))

unfoldable pub lines_by : KnownCard → List Step → List ℕ
lines_by card [] = []
lines_by card (step ∷ others) = explained card step ++ lines_by card others

-- the last so many
abbrev pub last_of : ℕ → List Step → List Step
last_of most steps = drop (length steps - most) steps

-- the last exchanges, each by what those before it say of it, also those that have no line
abbrev pub lines_of : KnownCard → List Numbered → ℕ → List ℕ
lines_of card exchanges most = lines_by card (last_of most (steps_from card.kind false Transfer exchanges))
