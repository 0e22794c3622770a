-- Lines of a card file, without their line feeds.
use Rattle.std.specs.Prelude.{ℕ, List, [], ◌∷◌, ◌++◌, Bool, codes, if◌then◌else◌}
use Rattle.std.specs.Fmt.{decimal}
use Rattle.text_out.specs.Hex.{hex_text}

-- a line and its line feed
abbrev pub ended : List ℕ → List ℕ
ended line = line ++ 10 ∷ []

-- lines, each with its line feed
abbrev pub ended_lines : List (List ℕ) → List ℕ
ended_lines [] = []
ended_lines (line ∷ others) = ended line ++ ended_lines others

-- KEY WORD
abbrev pub word_line : List ℕ → List ℕ → List ℕ
word_line key word = key ++ 32 ∷ word

-- KEY N
abbrev pub number_line : List ℕ → ℕ → List ℕ
number_line key number = word_line key (decimal number)

-- KEY DIGITS, the highest byte first
abbrev pub register_line : List ℕ → List ℕ → List ℕ
register_line key bytes = word_line key (hex_text bytes)

abbrev pub choice_word : Bool → List ℕ
choice_word choice = if choice then codes "yes" else codes "no"
