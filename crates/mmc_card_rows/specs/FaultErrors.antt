-- The error bits of faults.
use Rattle.std.specs.Prelude.{◌&&◌, ◌*◌, ◌==◌, ◌^◌, Bool, bit_or, nat_le, ℕ}
use Rattle.mmc_card.specs.ErrorBits.{com_crc_error, execution_error_bits, illegal_command}
use Rattle.mmc_card_rows.specs.declared.fault.CommandError.{CommandError}
use Rattle.mmc_card_rows.specs.declared.fault.CommandError.TheVariants.{ComCrc, Illegal}

-- the error bit of a command, in units of bit 13
abbrev pub error_bit : CommandError → ℕ
error_bit ComCrc = com_crc_error
error_bit Illegal = illegal_command

-- some error bits of execution, one at least, as a status has them
abbrev pub are_of_execution : ℕ → Bool
are_of_execution bits =
    (bit_or bits (2 ^ 13 * execution_error_bits) == 2 ^ 13 * execution_error_bits) && nat_le (2 ^ 13) bits
