-- A text in hexadecimal digits.
use Rattle.std.specs.Prelude.{ℕ, ◌+◌, ◌-◌, ◌==◌, ◌&&◌, ◌||◌, not, Bool, List, drop, filter, length}
use Rattle.std.specs.Prelude.{if◌then◌else◌, position, slice_index, Option, None, Some, Result, Ok, Err}
use Rattle.hex.specs.Hex.{is_hex_digit}
use Rattle.hex.specs.declared.error.FromHexError.{FromHexError}
use Rattle.card_decode.specs.declared.fault.HexFault.{HexFault}
use Rattle.card_decode.specs.declared.fault.HexFault.TheVariants.{Character, NoMemory}

-- a space, a tab, a line feed or a carriage return
abbrev pub is_white : ℕ → Bool
is_white byte = (byte == 32) || (byte == 9) || (byte == 10) || (byte == 13)

-- a character that may not stand there
abbrev pub is_stray : ℕ → Bool
is_stray byte = not (is_white byte) && not (is_hex_digit byte)

-- `0x` or `0X` stands first
abbrev pub has_prefix : List ℕ → Bool
has_prefix text = (slice_index text 0 == 48) && ((slice_index text 1 == 120) || (slice_index text 1 == 88))

-- what stands after a leading `0x`
abbrev pub without_prefix : List ℕ → List ℕ
without_prefix text = if has_prefix text then drop 2 text else text

-- the digits of a text, without white space
abbrev pub digits_in : List ℕ → List ℕ
digits_in text = filter is_hex_digit (without_prefix text)

-- the place in a text of a place after its prefix
abbrev pub place_in : List ℕ → ℕ → ℕ
place_in text place = length text - length (without_prefix text) + place

abbrev pub stray_at : List ℕ → Option ℕ → Option HexFault
stray_at text None = None
stray_at text (Some place) = Some (Character (slice_index text (place_in text place)) (place_in text place))

-- the first character that may not stand in a text
unfoldable pub stray_in : List ℕ → Option HexFault
stray_in text = stray_at text (position is_stray (without_prefix text))

-- a character that may not stand there comes before whatever the digits say
abbrev pub unless : Option HexFault → Result (List ℕ) HexFault → Result (List ℕ) HexFault
unless None read = read
unless (Some fault) read = Err fault

-- an even number of digits writes bytes
abbrev pub bytes_if : Result (List ℕ) FromHexError → Result (List ℕ) HexFault
bytes_if (Ok bytes) = Ok bytes
bytes_if (Err fault) = Err NoMemory
