-- Relation (docs/AUDIT.md, "What to read").
-- The two responses without an index: R2, the 136 bits that carry a CID or a CSD, and R3, the 48 bits that carry the
-- OCR (SD Physical Layer 6.00, sections 4.9.3 and 4.9.4; JESD84-B51, section 6.12). A register is its sixteen bytes.
use Rattle.std.specs.Prelude.{ℕ, ◌≡◌, ◌*◌, ◌+◌, ◌/◌, ◌%◌, ◌^◌, ◌==◌, ◌&&◌, List, [], ◌∷◌, ◌++◌, length, replicate, take, Bool, false, true}
use Rattle.std.specs.Prelude.{if◌then◌else◌, slice_index, slice_range, slice_set, Result, Ok, Err}
use Rattle.mmc_frame.specs.Check.{remainder, bits_of}
use Rattle.mmc_frame.specs.Field.{field}
use Rattle.mmc_frame.specs.Frame.{number, argument_in}
use Rattle.mmc_frame.specs.declared.fault.FrameFault.{FrameFault}
use Rattle.mmc_frame.specs.declared.fault.FrameFault.TheVariants.{FixedBits, Check}

-- bits 127 to 8 and the check in bits 7 to 1 have the remainder 0
unfoldable pub is_sound_register : List ℕ → Bool
is_sound_register register = remainder (take 127 (bits_of register)) == 0

-- bit 0 is 1
abbrev pub has_end_bit : List ℕ → Bool
has_end_bit register = slice_index register 15 % 2 == 1

-- a register's bits 127 to 8, and after them its check and the end bit
abbrev pub with_check : List ℕ → List ℕ
with_check bytes = bytes ++ (2 * remainder (bits_of bytes ++ replicate 7 false) + 1) ∷ []

-- the register in an R2: the sixteen bytes after 00111111, of which the last ends with a 1, otherwise the first fault
abbrev pub register_in : List ℕ → Result (List ℕ) FrameFault
register_in frame =
    if (slice_index frame 0 == 0x3f) && (slice_index frame 16 % 2 == 1)
    then (if is_sound_register (slice_range frame 1 17) then Ok (slice_range frame 1 17) else Err Check)
    else Err FixedBits

-- the R2 of a register: 00111111 and the register's bits 127 to 1, then the end bit 1 in place of bit 0
abbrev pub register_frame : List ℕ → List ℕ
register_frame register = 0x3f ∷ slice_set register 15 (slice_index register 15 / 2 * 2 + 1)

-- each register of sixteen bytes whose check fits and whose last bit is 1 comes back whole from its R2
abbrev pub RegistersComeBack : Type 0
RegistersComeBack =
    (register : List ℕ) → length register ≡ 16 → is_sound_register register ≡ true → has_end_bit register ≡ true
    → register_in (register_frame register) ≡ Ok register

-- the R3 of an OCR: 00111111, the OCR, 11111111
abbrev pub ocr_frame : ℕ → List ℕ
ocr_frame ocr = 0x3f ∷ ocr / 2 ^ 24 ∷ ocr / 2 ^ 16 % 256 ∷ ocr / 2 ^ 8 % 256 ∷ ocr % 256 ∷ 0xff ∷ []

-- the OCR in an R3, which has no check: 00111111, the OCR, 11111111
abbrev pub ocr_in : List ℕ → Result ℕ FrameFault
ocr_in frame =
    if (field 47 40 (number frame) == 0x3f) && (field 7 0 (number frame) == 0xff)
    then Ok (argument_in frame)
    else Err FixedBits
