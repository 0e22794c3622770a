-- Relation (docs/AUDIT.md, "What to read").
-- Which partitions exist. A command carries a sector's address in 32 bits (JESD84-B51, section 6.10.1), so a partition
-- whose last address doesn't fit them can't be reached as a whole. It counts as not existing; this rule is the stack's
-- own. Of the cards that the stack serves only a general purpose partition can be so large.
use Rattle.std.specs.Prelude.{ℕ, ◌/◌, ◌^◌, nat_le, if◌then◌else◌}
use Rattle.mmc_frame.specs.declared.addressing.Addressing.{Addressing}
use Rattle.mmc_frame.specs.declared.addressing.Addressing.TheVariants.{Bytes, Sectors}

-- the addresses of a command
abbrev pub addresses : ℕ
addresses = 2 ^ 32

-- how many sectors they name: by bytes, one in 512, since a sector goes by its first byte
abbrev pub addressable_sectors : Addressing → ℕ
addressable_sectors Bytes = addresses / 512
addressable_sectors Sectors = addresses

-- the sectors of a partition of this size that exist: all of them, or none where the last address needs more than 32
-- bits
abbrev pub existing_sectors : ℕ → Addressing → ℕ
existing_sectors size addressing = if nat_le size (addressable_sectors addressing) then size else 0
