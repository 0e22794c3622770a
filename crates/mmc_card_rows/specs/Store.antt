-- The sectors of a card in memory, and what is unfinished in them.
use Rattle.std.specs.Prelude.{◌++◌, ◌∷◌, Bool, List, [], drop, false, replicate, slice_index_or, slice_set, take}
use Rattle.std.specs.Prelude.{true, ℕ}
use Rattle.mmc_card.specs.Card.{landed_in}
use Rattle.mmc_card.specs.Sectors.{Sector, part_number}
use Rattle.mmc_card.specs.declared.part.Part.{Part}
use Rattle.mmc_card_rows.specs.declared.fault.Outcome.{Outcome}
use Rattle.mmc_card_rows.specs.declared.fault.Outcome.TheVariants.{New, Old}
use Rattle.mmc_card_rows.specs.declared.store.Store.{Store}

-- a block of 00h
abbrev pub blank : Sector
blank = replicate 512 0

-- these sectors as partitions of these sizes, one after the other
abbrev pub split : List ℕ → List Sector → List (List Sector)
split [] sectors = []
split (n ∷ sizes) sectors = take n sectors ∷ split sizes (drop n sectors)

unfoldable pub parts_of : Store → List (List Sector)
parts_of store = split store.sizes store.sectors

abbrev pub part_of : Store → Part → List Sector
part_of store part = slice_index_or (parts_of store) (part_number part) []

-- the new values that the write or erase has so far: of an erase so many sectors that are all one byte, and the blocks of a write
unfoldable pub values_of : Store → List Sector
values_of store = replicate store.erased_count (replicate 512 store.erased_byte) ++ store.blocks.items

-- which new values land: none, or all
abbrev pub lands_by : Outcome → ℕ → Bool
lands_by Old i = false
lands_by New i = true

-- the partitions once all that is unfinished in this one has landed, or nothing
abbrev pub landed_by : Outcome → Part → Store → List (List Sector)
landed_by outcome part store =
    slice_set (parts_of store) (part_number part)
    (landed_in (lands_by outcome) store.start (values_of store) (part_of store part))
