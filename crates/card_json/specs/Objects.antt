-- What a member of an object says, and an object on a line (RFC 8259).
use Rattle.std.specs.Prelude.{◌++◌, ◌∷◌, List, None, Option, Some, [], codes, if◌then◌else◌, map, ℕ}
use Rattle.std.specs.Str.{is_utf8}
use Rattle.hex.specs.Hex.{encode_lower}
use Rattle.serde_json.specs.Data.{Data, Members, boolean, no_members, number, object, put, string, unsigned}
use Rattle.serde_json.specs.Written.{compact_text}
use Rattle.card_json.specs.declared.said.Member.{Member}
use Rattle.card_json.specs.declared.said.Said.{Said}
use Rattle.card_json.specs.declared.said.Said.TheVariants.{Hex, Nothing, Number, Text, Truth, Word}

-- a text, or a question mark where it isn't UTF-8
abbrev pub shown : List ℕ → List ℕ
shown text = if is_utf8 text then text else codes "?"

-- the value of a member, where it has one
abbrev pub data_of : Said → Option Data
data_of (Word word) = Some (string word.now)
data_of (Text text) = Some (string (shown text.now))
data_of (Hex bytes) = Some (string (encode_lower bytes.now))
data_of (Number n) = Some (number (unsigned n))
data_of (Truth b) = Some (boolean b)
data_of Nothing = None

-- members, and one more where it has a value
abbrev pub with_said : List ℕ → Option Data → Members → Members
with_said name None members = members
with_said name (Some value) members = put name value members

-- members, and more of them one after the other
unfoldable pub members_from : Members → List (List ℕ × Option Data) → Members
members_from members [] = members
members_from members (m ∷ rest) = members_from (with_said m.0 m.1 members) rest

-- the names of members, and what they say
abbrev pub named : List Member → List (List ℕ × Option Data)
named members = map (λ m. (m.name.now, data_of m.said)) members

-- an object on a line
abbrev pub object_line : List (List ℕ × Option Data) → List ℕ
object_line said = compact_text (object (members_from no_members said)) ++ codes "\n"
