-- What names a sector in a command.
use Rattle.std.specs.Prelude.{◌*◌, ℕ}
use Rattle.mmc_frame.specs.declared.addressing.Addressing.{Addressing}
use Rattle.mmc_frame.specs.declared.addressing.Addressing.TheVariants.{Bytes, Sectors}

-- a sector, by its first byte or by its number
abbrev pub address_of : Addressing → ℕ → ℕ
address_of Bytes sector = 512 * sector
address_of Sectors sector = sector
