-- Sectors one after the other.
use Rattle.std.specs.Prelude.{◌+◌, ◌++◌, List, drop, length, take, ℕ}

-- the sectors with these values in their place, from the sector `first` on
abbrev pub with_values : List (List ℕ) → ℕ → List (List ℕ) → List (List ℕ)
with_values sectors first values = take first sectors ++ (values ++ drop (first + length values) sectors)
