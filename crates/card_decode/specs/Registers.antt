-- The registers as bytes and as numbers.
use Rattle.std.specs.Prelude.{ℕ, Bool, true, false, List, length, if◌then◌else◌}
use Rattle.byteorder.specs.Endian.{big_number, little_number}
use Rattle.card_decode.specs.declared.register.Register.{Register}
use Rattle.card_decode.specs.declared.register.Register.TheVariants.{Ocr, Cid, Csd, Scr, ExtCsd, CardStatus, SwitchStatus}

-- how many bytes a register has
abbrev pub register_len : Register → ℕ
register_len (Ocr kind) = 4
register_len (Cid kind) = 16
register_len (Csd kind) = 16
register_len Scr = 8
register_len ExtCsd = 512
register_len (CardStatus kind) = 4
register_len SwitchStatus = 64

-- the first byte of an EXT_CSD is its lowest; that of every other register is its highest
abbrev pub is_low_first : Register → Bool
is_low_first ExtCsd = true
is_low_first (Ocr kind) = false
is_low_first (Cid kind) = false
is_low_first (Csd kind) = false
is_low_first Scr = false
is_low_first (CardStatus kind) = false
is_low_first SwitchStatus = false

-- the number that a register's bytes write
unfoldable pub number_of : Register → List ℕ → ℕ
number_of register bytes =
    if is_low_first register then little_number (length bytes) bytes else big_number (length bytes) bytes
