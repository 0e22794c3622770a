-- Headline (docs/AUDIT.md, "What to read").
-- CID and CSD are registers of 128 bits with a check (SD Physical Layer 6.00, sections 4.5, 5.2 and 5.3; JESD84-B51,
-- sections 7.2 and 7.3).
use Rattle.std.specs.Prelude.{ℕ, ◌&&◌, ◌/◌, List, if◌then◌else◌, Result, Ok, Err}
use Rattle.byteorder.specs.Endian.{big_bytes, big_number}
use Rattle.mmc_frame.specs.RegisterFrame.{is_sound_register, has_end_bit, with_check}
use Rattle.mmc_regs.specs.declared.fault.RegFault.{RegFault}
use Rattle.mmc_regs.specs.declared.fault.RegFault.TheVariants.{Check}

-- a register of sixteen bytes as a whole number, the first byte the highest
abbrev pub register_number : List ℕ → ℕ
register_number register = big_number 16 register

-- the number of a register whose CRC7 (bits 7 to 1, over bits 127 to 8) fits and whose bit 0 is 1
abbrev pub checked_number : List ℕ → Result ℕ RegFault
checked_number register =
    if is_sound_register register && has_end_bit register then Ok (register_number register) else Err Check

-- the register with bits 127 to 8 of this number, and its check
unfoldable pub checked_register : ℕ → List ℕ
checked_register number = with_check (big_bytes 15 (number / 256))
