-- Headline (docs/AUDIT.md, "What to read").
-- Sectors, the values that each may hold, and changes of them. The words are the project's own.
use Rattle.std.specs.Prelude.{◌&&◌, ◌+◌, ◌-◌, ◌<◌, ◌==◌, ◌∷◌, ◌≡◌, ◌⊎◌, Bool, List, [], drop, false}
use Rattle.std.specs.Prelude.{if◌then◌else◌, length, nat_le, nat_lt, slice_index_or, suc, take, true, zero, ℕ}
use Rattle.mmc_card.specs.declared.part.Part.{Part}
use Rattle.mmc_card.specs.declared.part.Part.TheVariants.{Boot1, Boot2, Gp1, Gp2, Gp3, Gp4, User}

-- the bytes of a sector, 512 of them
abbrev pub Sector : Type 0
Sector = List ℕ

-- The values that each sector of each partition may hold. A sector that doesn't exist has none.
abbrev pub Sets : Type 0
Sets = Part → ℕ → List Sector

-- the seven partitions in order
abbrev pub part_number : Part → ℕ
part_number User = 0
part_number Boot1 = 1
part_number Boot2 = 2
part_number Gp1 = 3
part_number Gp2 = 4
part_number Gp3 = 5
part_number Gp4 = 6

-- a boot partition, which isn't erased (the project's own)
abbrev pub is_boot : Part → Bool
is_boot Boot1 = true
is_boot Boot2 = true
is_boot _ = false

-- it is one of these values
abbrev pub IsIn : List Sector → Sector → Type 0
IsIn [] value = ⊥
IsIn (x ∷ xs) value = (value ≡ x) ⊎ IsIn xs value

-- these values are one
abbrev pub IsDecided : List Sector → Type 0
IsDecided values = (v w : Sector) → IsIn values v → IsIn values w → v ≡ w

-- each sector may hold no more than it might in the old sets
abbrev pub Within : Sets → Sets → Type 0
Within new old =
    (part : Part) (sector : ℕ) (value : Sector) → IsIn (new part sector) value → IsIn (old part sector) value

-- each sector may hold the same
abbrev pub Same : Sets → Sets → Type 0
Same new old = (part : Part) (sector : ℕ) → new part sector ≡ old part sector

-- these sectors of a partition, one after the other, get these values
pub record Change : Type 0 where
  pub part : Part
  pub start : ℕ
  pub values : List Sector

-- the sector is one of them
abbrev pub touches : Change → Part → ℕ → Bool
touches change part sector =
    (part_number change.part == part_number part)
    && (nat_le change.start sector && nat_lt sector (change.start + length change.values))

-- what it gets
abbrev pub value_of : Change → ℕ → Sector
value_of change sector = slice_index_or change.values (sector - change.start) []

-- after a change that was carried out
abbrev pub changed : Change → Sets → Sets
changed change sets part sector = if touches change part sector then (value_of change sector ∷ []) else sets part sector

-- after a change of which each sector was carried out or not
abbrev pub maybe_changed : Change → Sets → Sets
maybe_changed change sets part sector =
    if touches change part sector then (value_of change sector ∷ sets part sector) else sets part sector

-- these values may be read there
abbrev pub AreRead : Sets → Part → ℕ → List Sector → Type 0
AreRead sets part start values = (i : ℕ) → i < length values → IsIn (sets part (start + i)) (slice_index_or values i [])

-- so many pieces of 512 bytes, from the front of these bytes
abbrev pub pieces : ℕ → List ℕ → List Sector
pieces zero bytes = []
pieces (suc count) bytes = take 512 bytes ∷ pieces count (drop 512 bytes)
