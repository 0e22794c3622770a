-- Text as XML has it (XML 1.0, sections 2.4 and 4.6).
use Rattle.std.specs.Prelude.{ℕ, ◌==◌, ◌&&◌, ◌++◌, not, Bool, List, [], ◌∷◌, Option, None, Some, codes, if◌then◌else◌}
use Rattle.std.specs.List.{flat_map}
use Rattle.std.specs.Str.{bytes_eq}

-- a byte, or the reference that stands for it
abbrev pub escaped_byte : ℕ → List ℕ
escaped_byte byte =
    if byte == 60 then codes "&lt;"
    else if byte == 62 then codes "&gt;"
    else if byte == 38 then codes "&amp;"
    else if byte == 34 then codes "&quot;"
    else byte ∷ []

abbrev pub escaped : List ℕ → List ℕ
escaped text = flat_map escaped_byte text

-- what the reference of this name stands for
abbrev pub meaning : List ℕ → List ℕ
meaning name =
    if bytes_eq name (codes "lt") then 60 ∷ []
    else if bytes_eq name (codes "gt") then 62 ∷ []
    else if bytes_eq name (codes "amp") then 38 ∷ []
    else if bytes_eq name (codes "quot") then 34 ∷ []
    else []

-- What a reader takes a text for, within a reference of which this much of the name has come, or in none: `&` begins a reference,
-- and `;` ends it.
unfoldable pub read_in : Option (List ℕ) → List ℕ → List ℕ
read_in reference [] = []
read_in None (byte ∷ bytes) = if byte == 38 then read_in (Some []) bytes else byte ∷ read_in None bytes
read_in (Some name) (byte ∷ bytes) =
    if byte == 59 then meaning name ++ read_in None bytes else read_in (Some (name ++ byte ∷ [])) bytes

-- not a byte that begins or ends a tag, or ends an attribute
abbrev pub is_no_markup : ℕ → Bool
is_no_markup byte = not (byte == 60) && (not (byte == 62) && not (byte == 34))
