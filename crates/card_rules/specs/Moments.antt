-- Which sector the next block is.
use Rattle.std.specs.Prelude.{◌/◌, ◌==◌, ◌||◌, Bool, None, Option, Some, if◌then◌else◌, ℕ}
use Rattle.mmc_frame.specs.declared.addressing.Addressing.{Addressing}
use Rattle.mmc_frame.specs.declared.addressing.Addressing.TheVariants.{Bytes, Sectors}
use Rattle.card_rules.specs.declared.moment.Place.{Place}

-- the sector that an argument names
abbrev pub sector_of : Addressing → ℕ → ℕ
sector_of Sectors argument = argument
sector_of Bytes argument = argument / 512

-- CMD17, CMD18, CMD24 or CMD25
abbrev pub moves_sectors : ℕ → Bool
moves_sectors index = (index == 17) || (index == 18) || (index == 24) || (index == 25)

-- only a command that reads or writes sectors says which one is next
abbrev pub next_after : Addressing → ℕ → ℕ → Option ℕ
next_after addressing index argument =
    if moves_sectors index then Some (sector_of addressing argument) else None

abbrev pub place_after : Place → ℕ → ℕ → Place
place_after place index argument = record place { next = next_after place.addressing index argument }
