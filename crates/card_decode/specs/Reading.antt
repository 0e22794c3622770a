-- A register or a frame that is written in hexadecimal digits.
use Rattle.std.specs.Prelude.{ℕ, ◌-◌, ◌*◌, ◌==◌, ◌&&◌, ◌||◌, nat_lt, Bool, true, false, List, [], ◌∷◌, ◌++◌, drop, length}
use Rattle.std.specs.Prelude.{if◌then◌else◌, replicate, slice_index, Result, Ok, Err}
use Rattle.hex.specs.Hex.{decode_of}
use Rattle.card_decode.specs.Digits.{bytes_if, digits_in, has_prefix, stray_in, unless}
use Rattle.card_decode.specs.Registers.{register_len}
use Rattle.card_decode.specs.declared.register.Register.{Register}
use Rattle.card_decode.specs.declared.register.Register.TheVariants.{Ocr, Cid, Csd, CardStatus}
use Rattle.card_decode.specs.declared.fault.HexFault.{HexFault}
use Rattle.card_decode.specs.declared.fault.HexFault.TheVariants.{FirstByte, FrameLength, Length}
use Rattle.card_decode.specs.declared.frame.Frame.{Frame}
use Rattle.card_decode.specs.declared.frame.Frame.TheVariants.{Long, Short}

-- an OCR and a card status are shown as numbers of 32 bits
abbrev pub is_number : Register → Bool
is_number (Ocr kind) = true
is_number (CardStatus kind) = true
is_number _ = false

-- how many leading zeros a number after `0x` leaves out
abbrev pub zeros_left_out : Register → List ℕ → ℕ
zeros_left_out register text =
    if has_prefix text && is_number register && nat_lt 0 (length (digits_in text))
    then 2 * register_len register - length (digits_in text)
    else 0

-- the digits of a register, with the leading zeros that are left out
abbrev pub register_digits : Register → List ℕ → List ℕ
register_digits register text = replicate (zeros_left_out register text) 48 ++ digits_in text

-- an R2 carries a CID or a CSD
abbrev pub is_in_r2 : Register → Bool
is_in_r2 (Cid kind) = true
is_in_r2 (Csd kind) = true
is_in_r2 _ = false

-- a register may have so many digits: all of them, or without those of its check, or with the R2 that carries it
abbrev pub may_have : Register → ℕ → Bool
may_have register count =
    (count == 2 * register_len register) || (is_in_r2 register && ((count == 30) || (count == 34)))

-- the register in an R2, which begins with 00111111
abbrev pub register_in : List ℕ → Result (List ℕ) HexFault
register_in frame = if slice_index frame 0 == 0x3f then Ok (drop 1 frame) else Err (FirstByte (slice_index frame 0))

-- the register in these bytes, with 0 for a check that is missing
abbrev pub register_of : List ℕ → Result (List ℕ) HexFault
register_of bytes =
    if length bytes == 15 then Ok (bytes ++ 0 ∷ [])
    else (if length bytes == 17 then register_in bytes else Ok bytes)

abbrev pub register_if : Result (List ℕ) HexFault → Result (List ℕ) HexFault
register_if (Ok bytes) = register_of bytes
register_if (Err fault) = Err fault

-- the register that the digits write, where there are as many as it may have
abbrev pub sized_register : Register → List ℕ → Result (List ℕ) HexFault
sized_register register digits =
    if may_have register (length digits) then register_if (bytes_if (decode_of digits))
    else Err (Length (length digits) (2 * register_len register))

-- the register that a text writes, otherwise the first fault: a stray character, another number of digits, or a frame
-- that carries no register
unfoldable pub reading_of : Register → List ℕ → Result (List ℕ) HexFault
reading_of register text = unless (stray_in text) (sized_register register (register_digits register text))

-- a frame has 48 bits, or 136
abbrev pub frame_may_have : ℕ → Bool
frame_may_have count = (count == 12) || (count == 34)

-- the bytes of the frame that the digits write, where there are as many as one has
abbrev pub sized_frame : List ℕ → Result (List ℕ) HexFault
sized_frame digits = if frame_may_have (length digits) then bytes_if (decode_of digits) else Err (FrameLength (length digits))

-- the frame that a text writes, otherwise the first fault: a stray character, or another number of digits
unfoldable pub frame_reading_of : List ℕ → Result (List ℕ) HexFault
frame_reading_of text = unless (stray_in text) (sized_frame (digits_in text))

-- a frame as its bytes
abbrev pub frame_bytes : Frame → List ℕ
frame_bytes (Short bytes) = bytes
frame_bytes (Long bytes) = bytes
