-- What an editor may have put into a line.
use Rattle.std.specs.Prelude.{◌-◌, ◌==◌, ◌∷◌, Bool, List, None, Option, Some, [], codes, false, if◌then◌else◌, length, slice_get, ℕ}
use Rattle.std.specs.List.{list_any, starts_with}
use Rattle.card_check.specs.declared.stray.Stray.{Stray}
use Rattle.card_check.specs.declared.stray.Stray.TheVariants.{ByteOrderMark, CarriageReturn, Tab}

abbrev pub is_return : Option ℕ → Bool
is_return (Some b) = b == 13
is_return None = false

-- the last byte is a carriage return
abbrev pub ends_with_return : List ℕ → Bool
ends_with_return line = is_return (slice_get line (length line - 1))

-- the first bytes are a byte order mark
abbrev pub begins_with_mark : List ℕ → Bool
begins_with_mark line = starts_with (λ a b. a == b) line (0xef ∷ 0xbb ∷ 0xbf ∷ [])

abbrev pub has_tab : List ℕ → Bool
has_tab line = list_any (λ b. b == 9) line

-- the first of these that a line has
abbrev pub stray_in : List ℕ → Option Stray
stray_in line =
    if ends_with_return line then Some CarriageReturn
    else (if begins_with_mark line then Some ByteOrderMark else (if has_tab line then Some Tab else None))

abbrev pub stray_words : Stray → List ℕ
stray_words CarriageReturn = codes "it ends with a carriage return (0d); lines end with a line feed alone"
stray_words ByteOrderMark =
    codes "it begins with a byte order mark (ef bb bf), which an editor put there; a file has none"
stray_words Tab = codes "it has a tab (09); one space stands between two fields"
