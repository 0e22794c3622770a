-- Bytes as a list.
use Rattle.std.specs.Prelude.{◌++◌, ◌*◌, ◌+◌, ◌/◌, List, drop, length, take, ℕ}
use Rattle.mmc_card.specs.Sectors.{Sector, pieces}

-- the bytes with these left in their place from `start` on; a slice that is lent keeps its length
abbrev pub with_part : List ℕ → ℕ → List ℕ → List ℕ
with_part bytes start left = take (length bytes) (take start bytes ++ (left ++ drop (start + length left) bytes))

-- the whole blocks of some bytes
abbrev pub blocks_in : List ℕ → List Sector
blocks_in bytes = pieces (length bytes / 512) bytes

-- bytes after these were left in a block
abbrev pub with_block : List ℕ → ℕ → List ℕ → List ℕ
with_block bytes i left = with_part bytes (512 * i) left
