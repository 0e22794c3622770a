-- A line of a register as an object, by its parts.
use Rattle.std.specs.Prelude.{◌+◌, ◌++◌, ◌-◌, ◌==◌, ◌∷◌, List, None, Option, Some, [], codes, drop, length, option_map, position, take, ℕ}
use Rattle.serde_json.specs.Data.{Data, string}
use Rattle.card_json.specs.Objects.{object_line, shown}

-- where the first byte `at` of a text stands
abbrev pub place : ℕ → List ℕ → Option ℕ
place at text = position (λ b. b == at) text

-- what stands before a place, or all without one
abbrev pub upto : Option ℕ → List ℕ → List ℕ
upto None text = text
upto (Some n) text = take n text

-- what stands after a place
abbrev pub past : Option ℕ → List ℕ → Option (List ℕ)
past None text = None
past (Some n) text = Some (drop (n + 1) text)

-- a line as it is
abbrev pub words_said : List ℕ → List (List ℕ × Option Data)
words_said line = (codes "words", Some (string (shown line))) ∷ []

-- what a value stands for: all after `: `
abbrev pub meaning_of : List ℕ → Option Data
meaning_of tail = option_map (λ meaning. string (shown (drop 1 meaning))) (past (place 58 tail) tail)

-- NAME [BITS] VALUE: MEANING
abbrev pub field_said : List ℕ → List ℕ → List ℕ → List (List ℕ × Option Data)
field_said front bits tail =
    (codes "field", Some (string (shown (take (length front - 1) front)))) ∷ (codes "bits", Some (string (shown bits)))
    ∷ (codes "value", Some (string (shown (drop 1 (upto (place 58 tail) tail))))) ∷ (codes "meaning", meaning_of tail) ∷ []

-- a line whose brackets are closed is a field's
abbrev pub closed_said : List ℕ → List ℕ → Option (List ℕ) → List (List ℕ × Option Data)
closed_said line rest None = words_said line
closed_said line rest (Some tail) = field_said (upto (place 91 line) line) (upto (place 93 rest) rest) tail

abbrev pub opened_said : List ℕ → Option (List ℕ) → List (List ℕ × Option Data)
opened_said line None = words_said line
opened_said line (Some rest) = closed_said line rest (past (place 93 rest) rest)

abbrev pub line_said : List ℕ → List (List ℕ × Option Data)
line_said line = opened_said line (past (place 91 line) line)

-- an object for each line
unfoldable pub fields_text : List (List ℕ) → List ℕ
fields_text [] = []
fields_text (line ∷ lines) = object_line (line_said line) ++ fields_text lines
