-- The sizes of the partitions of a card in memory.
use Rattle.std.specs.Prelude.{◌+◌, ◌∷◌, List, [], ℕ}

-- how many sectors partitions of these sizes have together
abbrev pub total : List ℕ → ℕ
total [] = 0
total (n ∷ sizes) = n + total sizes
