-- The fields of a register as data.
use Rattle.std.specs.Prelude.{ℕ, ◌+◌, ◌-◌, ◌*◌, ◌^◌, ◌==◌, ◌&&◌, nat_lt, nat_le, Bool, true, false, List, [], ◌∷◌, if◌then◌else◌}
use Rattle.std.specs.Prelude.{Option, Some, None}
use Rattle.std.specs.List.{list_all}
use Rattle.std.specs.Str.{bytes_eq}
use Rattle.mmc_frame.specs.Field.{field}
use Rattle.card_decode.specs.Registers.{is_low_first, register_len}
use Rattle.card_decode.specs.declared.register.Register.{Register}
use Rattle.card_decode.specs.declared.field.Field.{Field}
use Rattle.card_decode.specs.declared.field.Meaning.{Meaning}
use Rattle.card_decode.specs.declared.field.Meaning.TheVariants.{Hexadecimal, Listed, Bits, Scaled, Text, Reserved}

-- The fields of an EXT_CSD go by bytes, those of other registers by bits.
abbrev pub unit_of : Register → ℕ
unit_of register = if is_low_first register then 8 else 1

abbrev pub high_bit : Register → Field → ℕ
high_bit register f = unit_of register * (f.high + 1) - 1

abbrev pub low_bit : Register → Field → ℕ
low_bit register f = unit_of register * f.low

-- the value of a field in a register's number
abbrev pub value_of : Register → ℕ → Field → ℕ
value_of register number f = field (high_bit register f) (low_bit register f) number

abbrev pub is_reserved : Meaning → Bool
is_reserved Reserved = true
is_reserved _ = false

abbrev pub is_hexadecimal : Meaning → Bool
is_hexadecimal Hexadecimal = true
is_hexadecimal (Listed names) = true
is_hexadecimal (Bits names) = true
is_hexadecimal (Text count) = true
is_hexadecimal Reserved = true
is_hexadecimal _ = false

-- any number of bits can have such a meaning
abbrev pub is_wide : Meaning → Bool
is_wide Hexadecimal = true
is_wide Reserved = true
is_wide _ = false

-- the fields go from below `count` bits (or bytes) down to `low`, with no gap, and share none
abbrev pub spans : ℕ → ℕ → List Field → Bool
spans count low [] = count == low
spans count low (f ∷ fs) = nat_le f.low f.high && (f.high + 1 == count) && spans f.low low fs

-- a value of so many bits can be said
abbrev pub can_say : ℕ → Meaning → Bool
can_say width Reserved = true
can_say width Hexadecimal = true
can_say width (Scaled s) = nat_le width 32 && nat_le s.offset 1 && nat_lt s.factor (2 ^ 31)
can_say width (Text count) = nat_le count 8 && (width == 8 * count)
can_say width _ = nat_le width 64

-- a field stands in the register, and its value can be said
abbrev pub fits : Register → Field → Bool
fits register f =
    nat_le f.low f.high && nat_lt (high_bit register f) (8 * register_len register)
    && can_say (high_bit register f + 1 - low_bit register f) f.meaning

abbrev pub all_fit : Register → List Field → Bool
all_fit register fields = list_all (fits register) fields

-- the field of this name
abbrev pub named : List ℕ → List Field → Option Field
named name [] = None
named name (f ∷ fs) = if bytes_eq f.name.now name then Some f else named name fs
