-- Relation (docs/AUDIT.md, "What to read").
-- Frames of 48 bits (SD Physical Layer 6.00, sections 4.7.2 and 4.9; JESD84-B51, sections 6.10.1 and 6.12).
-- A frame is six bytes, and as a number its bit 47 is sent first.
use Rattle.std.specs.Prelude.{ℕ, ◌+◌, ◌*◌, ◌^◌, ◌==◌, ◌&&◌, List, take, Bool, if◌then◌else◌, slice_index, Option, Some}
use Rattle.std.specs.Prelude.{None, Result, Ok, Err}
use Rattle.mmc_frame.specs.Check.{remainder, bits_of}
use Rattle.mmc_frame.specs.Field.{field}
use Rattle.mmc_frame.specs.declared.fault.FrameFault.{FrameFault}
use Rattle.mmc_frame.specs.declared.fault.FrameFault.TheVariants.{FixedBits, Check, Index}

abbrev pub number : List ℕ → ℕ
number frame =
    slice_index frame 0 * 2 ^ 40 + slice_index frame 1 * 2 ^ 32 + slice_index frame 2 * 2 ^ 24
    + slice_index frame 3 * 2 ^ 16 + slice_index frame 4 * 2 ^ 8 + slice_index frame 5

-- the 40 covered bits and the check after them have the remainder 0
unfoldable pub is_sound : List ℕ → Bool
is_sound frame = remainder (take 47 (bits_of frame)) == 0

-- the start bit is 0, the transmission bit is as it should be (1 from the host, 0 from the card), and the end bit is 1
abbrev pub has_fixed_bits : ℕ → List ℕ → Bool
has_fixed_bits transmission frame = (field 47 46 (number frame) == transmission) && (field 0 0 (number frame) == 1)

abbrev pub index_in : List ℕ → ℕ
index_in frame = field 45 40 (number frame)

abbrev pub argument_in : List ℕ → ℕ
argument_in frame = field 39 8 (number frame)

-- the index and the argument of a sound command
abbrev pub command_in : List ℕ → Option (ℕ × ℕ)
command_in frame =
    if has_fixed_bits 1 frame && is_sound frame then Some (index_in frame, argument_in frame) else None

-- the argument of a sound response to this index (R1, R6 and R7 have this form), otherwise the first fault
abbrev pub response_in : List ℕ → ℕ → Result ℕ FrameFault
response_in frame index =
    if has_fixed_bits 0 frame
    then (if is_sound frame
    then (if index_in frame == index then Ok (argument_in frame) else Err Index)
    else Err Check)
    else Err FixedBits
