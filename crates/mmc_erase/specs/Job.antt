-- Headline (docs/AUDIT.md, "What to read").
-- What a run is for.
use Rattle.std.specs.Prelude.{◌%◌, ◌&&◌, ◌+◌, ◌==◌, ◌||◌, Bool, replicate, ℕ}
use Rattle.mmc_card.specs.Sectors.{Change}
use Rattle.mmc_switch.specs.UnderWay.{part_of}
use Rattle.mmc_switch.specs.declared.info.Info.{Info}
use Rattle.mmc_switch.specs.declared.session.Session.{Session}
use Rattle.mmc_erase.specs.declared.how.How.{How}
use Rattle.mmc_erase.specs.declared.how.How.TheVariants.{Erase, Trim}

-- from the begin of a unit to the end of one, or of the partition
abbrev pub are_units : ℕ → ℕ → ℕ → ℕ → Bool
are_units unit room start count =
    (start % unit == 0) && (((start + count) % unit == 0) || (start + count == room))

-- an erase is of whole units, and a trim of a card that trims
abbrev pub suits : How → Info → ℕ → ℕ → ℕ → Bool
suits Erase info room start count = are_units info.erase_unit room start count
suits Trim info room start count = info.trims

-- these sectors get the erased byte
abbrev pub erased : Session → ℕ → ℕ → Change
erased session start count =
    record { part = part_of session; start = start; values = replicate count (replicate 512 session.info.erased_byte) }
