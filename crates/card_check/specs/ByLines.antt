-- What is written of the lines of a text, one after the other.
use Rattle.std.specs.Prelude.{ℕ, ◌+◌, List, [], ◌∷◌, ◌++◌}

-- this of each line and its number, which are counted from a number on
unfoldable pub by_lines : (ℕ → List ℕ → List ℕ) → ℕ → List (List ℕ) → List ℕ
by_lines said number [] = []
by_lines said number (text ∷ others) = said number text ++ by_lines said (number + 1) others
