-- Blocks of a list, written as one run of bytes.
use Rattle.std.specs.Prelude.{◌+◌, ◌++◌, List, drop, take, ℕ}
use Rattle.std.specs.Simd.{first_chunks}
use Rattle.c_host.specs.declared.lent.SectorsMut.{SectorsMut}

-- the blocks with these bytes left in so many of them, from this one on
abbrev pub with_run : List (List ℕ) → ℕ → ℕ → List ℕ → List (List ℕ)
with_run blocks first count left = take first blocks ++ (first_chunks 512 count left ++ drop (first + count) blocks)

-- the sectors once these are their blocks
abbrev pub holding : SectorsMut → List (List ℕ) → SectorsMut
holding lent blocks = record lent { blocks = record lent.blocks { now = blocks } }
