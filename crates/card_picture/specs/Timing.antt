-- A timing diagram.
use Rattle.std.specs.Prelude.{ℕ, ◌+◌, ◌*◌, List, [], ◌∷◌, ◌++◌, codes, length}
use Rattle.std.specs.Fmt.{decimal}
use Rattle.card_explain.specs.declared.exchange.KnownCard.{KnownCard}
use Rattle.card_explain.specs.declared.step.Step.{Step}
use Rattle.card_picture.specs.Columns.{column_text}
use Rattle.card_picture.specs.declared.column.TheConstants.{LEFT, WIDTH}
use Rattle.card_picture.specs.declared.timing.TheConstants.{TIMING_HEAD, TIMING_SYMBOLS}

-- how wide a diagram of so many columns is
abbrev pub width_of : ℕ → ℕ
width_of columns = LEFT + (WIDTH * columns + 8)

-- the element of the picture, with its size, and what the columns draw with
unfoldable pub timing_front : ℕ → List ℕ
timing_front columns =
    TIMING_HEAD.now ++ (decimal (width_of columns) ++ (codes "' viewBox='0 0 " ++ (decimal (width_of columns) ++ TIMING_SYMBOLS.now)))

-- a column for each exchange, one beside the other
unfoldable pub columns_from : KnownCard → ℕ → List Step → List ℕ
columns_from card place [] = []
columns_from card place (step ∷ others) = column_text card place step ++ columns_from card (place + 1) others

unfoldable pub timing_text : KnownCard → List Step → List ℕ
timing_text card steps = timing_front (length steps) ++ (columns_from card 0 steps ++ codes "</svg>\n")
