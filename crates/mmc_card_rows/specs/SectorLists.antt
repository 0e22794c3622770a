-- Sectors one after the other.
use Rattle.std.specs.Prelude.{List, None, Option, Some, replicate, ℕ}
use Rattle.mmc_card.specs.Sectors.{Sector, pieces}

-- the sectors of a new card: those of an image, or all with this byte
abbrev pub first_sectors : Option (List ℕ) → ℕ → ℕ → List Sector
first_sectors (Some image) count erased = pieces count image
first_sectors None count erased = replicate count (replicate 512 erased)
