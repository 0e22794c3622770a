-- The data of a write: repeats of one byte, joined by commas.
use Rattle.std.specs.Prelude.{ℕ, List, [], ◌∷◌, Option, None, Some, length, nat_lt, nat_le, if◌then◌else◌}
use Rattle.std.specs.Prelude.{option_and_then}
use Rattle.text_out.specs.Repeats.{Repeat, spread}
use Rattle.card_text.specs.declared.data.TheConstants.{MAX_DATA}
use Rattle.card_text.specs.Parts.{parts}
use Rattle.card_text.specs.Numbers.{number_of, byte_of}

-- a repeat has at least one byte
abbrev pub counted : ℕ → ℕ → Option Repeat
counted byte count = if nat_lt 0 count then Some (byte, count) else None

abbrev pub repeat_of_fields : List (List ℕ) → Option Repeat
repeat_of_fields (digits ∷ count ∷ []) =
    option_and_then (λ b. option_and_then (λ n. counted b n) (number_of count)) (byte_of digits)
repeat_of_fields _ = None

-- HH*N
unfoldable pub repeat_of : List ℕ → Option Repeat
repeat_of text = repeat_of_fields (parts 42 text)

abbrev pub with_repeat : Option Repeat → Option (List Repeat) → Option (List Repeat)
with_repeat (Some r) (Some rs) = Some (r ∷ rs)
with_repeat _ _ = None

-- the repeats of which each text says one
unfoldable pub repeats_of : List (List ℕ) → Option (List Repeat)
repeats_of [] = Some []
repeats_of (t ∷ ts) = with_repeat (repeat_of t) (repeats_of ts)

-- the bytes, where they are not too many
abbrev pub capped : List ℕ → Option (List ℕ)
capped bytes = if nat_le (length bytes) MAX_DATA then Some bytes else None

-- HH*N,HH*N,..
unfoldable pub data_of : List ℕ → Option (List ℕ)
data_of text = option_and_then (λ rs. capped (spread rs)) (repeats_of (parts 44 text))
