-- The lines that are printed of a register.
use Rattle.std.specs.Prelude.{◌<◌, ◌≤◌, ℕ, ◌+◌, ◌-◌, ◌*◌, ◌/◌, ◌%◌, ◌^◌, ◌==◌, ◌&&◌, nat_lt, nat_le, Bool, List, [], ◌∷◌, ◌++◌, codes, map, if◌then◌else◌}
use Rattle.std.specs.Prelude.{Option, Some, None, find, slice_get}
use Rattle.std.specs.Fmt.{decimal}
use Rattle.std.specs.Int.{bytes_high_first}
use Rattle.text_out.specs.Hex.{hex_text}
use Rattle.card_decode.specs.declared.register.Register.{Register}
use Rattle.card_decode.specs.declared.field.Field.{Field}
use Rattle.card_decode.specs.declared.field.Name.{Name}
use Rattle.card_decode.specs.declared.field.Scale.{Scale}
use Rattle.card_decode.specs.declared.field.Meaning.{Meaning}
use Rattle.card_decode.specs.declared.field.Meaning.TheVariants.{Number, Hexadecimal, Flag, Named, Listed, Bits, Scaled, Power, Product, Text, Revision, Date, MmcDate, Reserved}
use Rattle.card_decode.specs.Fields.{high_bit, is_hexadecimal, is_reserved, low_bit, value_of}

-- `NAME [HIGH:LOW] `, or `NAME [BIT] ` of a single one
unfoldable pub label_text : Field → List ℕ
label_text f =
    if f.high == f.low
    then f.name.now ++ (codes " [" ++ (decimal f.high ++ codes "] "))
    else f.name.now ++ (codes " [" ++ (decimal f.high ++ (codes ":" ++ (decimal f.low ++ codes "] "))))

-- a number of so many bits in hexadecimal digits of whole bytes
unfoldable pub digits_text : ℕ → ℕ → List ℕ
digits_text width number = hex_text (bytes_high_first ((width + 7) / 8) number)

-- the value of a field of so many bits, in decimal digits or hexadecimal ones
unfoldable pub value_text : ℕ → Meaning → ℕ → List ℕ
value_text width meaning value = if is_hexadecimal meaning then codes "0x" ++ digits_text width value else decimal value

-- a line's end with a meaning
abbrev pub said : List ℕ → List ℕ
said text = codes ": " ++ (text ++ codes "\n")

-- the name of a value
unfoldable pub name_in : List Name → ℕ → List ℕ
name_in [] value = codes "reserved"
name_in (name ∷ names) value = if name.value == value then name.text.now else name_in names value

abbrev pub said_if : Option Name → List ℕ
said_if None = codes "\n"
said_if (Some name) = said name.text.now

-- the name of a value, where one is known
abbrev pub listed_text : List Name → ℕ → List ℕ
listed_text names value = said_if (find (λ name. name.value == value) names)

-- a bit is set, the lowest at 0
abbrev pub has_bit : ℕ → ℕ → Bool
has_bit place value = value / 2 ^ place % 2 == 1

-- the names of the bits that are set, each after a separator, of which the first is given
unfoldable pub set_text : List ℕ → List Name → ℕ → List ℕ
set_text separator [] value = codes "\n"
set_text separator (name ∷ names) value =
    if has_bit name.value value
    then separator ++ (name.text.now ++ set_text (codes ", ") names value)
    else set_text separator names value

-- so many of a unit
unfoldable pub counted_text : ℕ → List ℕ → List ℕ
counted_text count unit = codes ": " ++ (decimal count ++ (codes " " ++ (unit ++ codes "\n")))

abbrev pub power_text : List ℕ → ℕ → List ℕ
power_text unit value = if nat_lt value 64 then counted_text (2 ^ value) unit else said (codes "reserved")

-- a mantissa that isn't 0 times a scale
abbrev pub product_text : Option ℕ → Option Scale → List ℕ
product_text (Some mantissa) (Some scale) =
    if nat_lt 0 mantissa && nat_lt (mantissa * scale.factor) (2 ^ 64)
    then counted_text (mantissa * scale.factor) scale.unit.now
    else said (codes "reserved")
product_text mantissa scale = said (codes "reserved")

-- a character that can be printed, from `!` to `~`, stands for itself
abbrev pub printable : ℕ → ℕ
printable byte = if nat_le 33 byte && nat_le byte 126 then byte else 63

unfoldable pub characters_text : ℕ → ℕ → List ℕ
characters_text count value = said (map printable (bytes_high_first count value))

unfoldable pub revision_text : ℕ → List ℕ
revision_text value = codes ": " ++ (decimal (value / 16) ++ (codes "." ++ (decimal (value % 16) ++ codes "\n")))

-- a month and a year
unfoldable pub said_date : ℕ → ℕ → List ℕ
said_date month year = codes ": " ++ (decimal month ++ (codes "/" ++ (decimal year ++ codes "\n")))

-- a month of one of two years
unfoldable pub either_date_text : ℕ → ℕ → List ℕ
either_date_text month year =
    codes ": " ++ (decimal month ++ (codes "/" ++ (decimal year ++ (codes ", or " ++ (decimal month
    ++ (codes "/" ++ (decimal (year + 16) ++ codes " where EXT_CSD_REV is 5 or more\n")))))))

-- the date of an eMMC device, whose years from 1997 to 2009 are 16 years later from EXT_CSD_REV 5 on
unfoldable pub mmc_date_text : ℕ → ℕ → List ℕ
mmc_date_text month year = if nat_lt year 2010 then either_date_text month year else said_date month year

-- the end of a line: what the value stands for, and a line feed
unfoldable pub ending_text : Meaning → ℕ → List ℕ
ending_text Number value = codes "\n"
ending_text Hexadecimal value = codes "\n"
ending_text (Flag text) value = if value == 0 then codes "\n" else said text.now
ending_text (Named names) value = said (name_in names.now value)
ending_text (Listed names) value = listed_text names.now value
ending_text (Bits names) value = set_text (codes ": ") names.now value
ending_text (Scaled s) value = counted_text ((value + s.offset) * s.factor) s.unit.now
ending_text (Power unit) value = power_text unit.now value
ending_text (Product mantissas scales) value =
    product_text (slice_get mantissas.now (value / 8)) (slice_get scales.now (value % 8))
ending_text (Text count) value = characters_text count value
ending_text Revision value = revision_text value
ending_text Date value = said_date (value % 16) (value / 16 + 2000)
ending_text MmcDate value = mmc_date_text (value / 16) (value % 16 + 1997)
ending_text Reserved value = codes ": not zero\n"

-- how many bits a field has
abbrev pub width_of : Register → Field → ℕ
width_of register f = high_bit register f + 1 - low_bit register f

-- `NAME [HIGH:LOW] VALUE` with the meaning after it, and nothing for reserved bits that are 0
unfoldable pub field_text : Register → ℕ → Field → List ℕ
field_text register number f =
    if is_reserved f.meaning && (value_of register number f == 0) then []
    else label_text f ++ (value_text (width_of register f) f.meaning (value_of register number f)
    ++ ending_text f.meaning (value_of register number f))

-- a line for each field
unfoldable pub fields_text : Register → ℕ → List Field → List ℕ
fields_text register number [] = []
fields_text register number (f ∷ fs) = field_text register number f ++ fields_text register number fs

-- a value that a meaning can be said of: what it scales fits 64 bits, and its characters are at most eight
abbrev pub IsSmall : Meaning → ℕ → Type 0
IsSmall (Scaled s) value = (value + s.offset < 2 ^ 64) × ((value + s.offset) * s.factor < 2 ^ 64)
IsSmall (Text count) value = count ≤ 8
IsSmall _ value = Unit {0}
