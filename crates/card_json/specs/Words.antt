-- The words of a line as members of an object.
use Rattle.std.specs.Prelude.{Bool, List, None, Option, Some, bytes_eq, false, option_and_then, option_map, slice_get, ℕ}
use Rattle.serde_json.specs.Data.{Data, number, string, unsigned}
use Rattle.card_text.specs.Numbers.{number_of}
use Rattle.card_json.specs.Objects.{shown}

-- the word is this one
abbrev pub is_this : Option (List ℕ) → List ℕ → Bool
is_this None word = false
is_this (Some there) word = bytes_eq there word

abbrev pub is_word : List (List ℕ) → ℕ → List ℕ → Bool
is_word words n word = is_this (slice_get words n) word

-- word n as a text
abbrev pub text_at : List (List ℕ) → ℕ → Option Data
text_at words n = option_map (λ word. string (shown word)) (slice_get words n)

-- word n as a number
abbrev pub number_at : List (List ℕ) → ℕ → Option Data
number_at words n = option_map (λ n. number (unsigned n)) (option_and_then number_of (slice_get words n))
