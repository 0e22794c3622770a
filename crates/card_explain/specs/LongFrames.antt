-- A frame of 136 bits, an R2, field by field (SD Physical Layer 6.00, section 4.9.3; JESD84-B51, section 6.12).
use Rattle.std.specs.Prelude.{ℕ, ◌/◌, List, ◌++◌, codes, false, replicate, slice_index, slice_range, [], ◌∷◌}
use Rattle.std.specs.Fmt.{decimal}
use Rattle.text_out.specs.Hex.{hex_text}
use Rattle.mmc_frame.specs.Check.{bits_of, remainder}
use Rattle.mmc_frame.specs.Field.{field}
use Rattle.card_explain.specs.Frames.{back_text, check_text, direction_words, end_bit_text, fixed_text, start_bit_text}

unfoldable pub long_start_text : ℕ → List ℕ
long_start_text first = codes "start bit [135] " ++ decimal (first / 128)

unfoldable pub long_transmission_text : ℕ → List ℕ
long_transmission_text first = codes "\ntransmission bit [134] " ++ (decimal (field 6 6 first) ++ direction_words first)

unfoldable pub reserved_bits_text : ℕ → List ℕ
reserved_bits_text first = codes "\nreserved [133:128] 0x" ++ hex_text (field 5 0 first ∷ [])

-- the fields of the first byte
unfoldable pub long_head_text : ℕ → List ℕ
long_head_text first = long_start_text first ++ (long_transmission_text first ++ reserved_bits_text first)

-- the register's sixteen bytes, and what decodes them
unfoldable pub register_text : List ℕ → List ℕ
register_text register =
    codes "\nregister [127:0] 0x" ++ (hex_text register
    ++ codes "\nR2: a CID after CMD2 or CMD10, a CSD after CMD9; decode these digits as cid or csd")

-- a line for each field
unfoldable pub long_fields_text : List ℕ → List ℕ
long_fields_text frame =
    long_head_text (slice_index frame 0)
    ++ (register_text (slice_range frame 1 17) ++ back_text (slice_index frame 16))

-- the check that fits the register's first fifteen bytes: the remainder of their bits with seven zeros after them
unfoldable pub register_check : List ℕ → ℕ
register_check frame = remainder (bits_of (slice_range frame 1 16) ++ replicate 7 false)

unfoldable pub transmission_bit_text : ℕ → List ℕ
transmission_bit_text first = fixed_text (codes "transmission bit") (field 6 6 first) 0 (codes "0")

unfoldable pub reserved_text : ℕ → List ℕ
reserved_text first = fixed_text (codes "reserved") (field 5 0 first) 63 (codes "0x3f")

-- whether the register's check fits
unfoldable pub register_fit_text : List ℕ → List ℕ
register_fit_text frame = check_text (slice_index frame 16 / 2) (register_check frame)

-- the same, and which of the other fields is wrong
unfoldable pub long_verdict_text : List ℕ → List ℕ
long_verdict_text frame =
    register_fit_text frame
    ++ (start_bit_text (slice_index frame 0) ++ (transmission_bit_text (slice_index frame 0)
    ++ (reserved_text (slice_index frame 0) ++ end_bit_text (slice_index frame 16))))

-- all of a frame: its fields, and what is right and wrong of it
abbrev pub long_frame_text : List ℕ → List ℕ
long_frame_text frame = long_fields_text frame ++ long_verdict_text frame
