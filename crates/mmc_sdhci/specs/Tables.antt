-- Descriptor tables of ADMA2, with addresses of 32 or 64 bits: which memory they name (SD Host Controller Simplified Specification 3.00,
-- section 1.13.3).
use Rattle.std.specs.Int.{to_le_bytes, w16, w32, w64}
use Rattle.std.specs.Prelude.{Bool, List, if◌then◌else◌, min, ℕ, ◌*◌, ◌++◌, ◌+◌, ◌-◌, ◌/◌, ◌==◌}
use Rattle.mmc_sdhci.specs.declared.tables.Line.{Line}
use Rattle.mmc_sdhci.specs.declared.tables.Line.TheVariants as Bits

-- Bit 0 says that a line is valid, bit 1 that it is the last, and 10b in bits 5 and 4 that data is moved.
abbrev pub attributes : Bool → ℕ
attributes is_last = if is_last then 0x23 else 0x21

-- A line: its attributes, a length in bytes, and the address of so much memory.
abbrev pub line : Bool → ℕ → ℕ → Bool → List ℕ
line is_wide address size is_last =
    to_le_bytes w16 (attributes is_last) ++ to_le_bytes w16 size
    ++ (if is_wide then to_le_bytes w64 address else to_le_bytes w32 address)

abbrev pub bytes_of : Line → List ℕ
bytes_of (Bits.Narrow bytes) = bytes
bytes_of (Bits.Wide bytes) = bytes

-- Memory in one piece by bus addresses is named in pieces of 32 KiB, the last of which may be shorter: a length of 65,536 bytes would be
-- written as 0, which not all controllers take.
abbrev pub piece : ℕ
piece = 0x8000

abbrev pub lines_for : ℕ → ℕ
lines_for size = (size + 0x7fff) / piece

-- Each line of the table of so much memory from this address on.
abbrev pub line_at : Bool → ℕ → ℕ → ℕ → List ℕ
line_at is_wide start size i =
    line is_wide (start + piece * i) (min (size - piece * i) piece) (i + 1 == lines_for size)
