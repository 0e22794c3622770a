-- Keys that a card file must have and hasn't.
use Rattle.std.specs.Prelude.{ℕ, Bool, false, true, List, [], ◌∷◌, ◌++◌, Option, None, Some, codes, if◌then◌else◌}
use Rattle.std.specs.List.{list_any}
use Rattle.std.specs.Str.{bytes_eq}
use Rattle.card_text.specs.Parts.{parts}
use Rattle.mmc_frame.specs.declared.kind.Kind.{Kind as CardKind}
use Rattle.mmc_frame.specs.declared.kind.Kind.TheVariants.{Mmc, Sd}
use Rattle.card_check.specs.Keys.{expected_words}
use Rattle.card_check.specs.declared.key.Key.{Key}
use Rattle.card_check.specs.declared.key.Key.TheVariants.{Cid, Csd, Kind, Ocr, Scr, Sectors}

abbrev pub is_first_field : List ℕ → List (List ℕ) → Bool
is_first_field name [] = false
is_first_field name (field ∷ others) = bytes_eq field name

-- the first field of a line is this name
abbrev pub begins_with : List ℕ → List ℕ → Bool
begins_with name line = is_first_field name (parts 32 line)

-- what is written of a key, where no line begins with its name
abbrev pub missing_text : List (List ℕ) → List ℕ → Key → List ℕ
missing_text all name key =
    if list_any (begins_with name) all then []
    else codes "card: a line is missing: " ++ (expected_words key ++ (10 ∷ []))

-- of the registers that each card has
abbrev pub missing_registers : List (List ℕ) → List ℕ
missing_registers all =
    missing_text all (codes "ocr") Ocr ++ (missing_text all (codes "cid") Cid ++ missing_text all (codes "csd") Csd)

-- a card file of an SD card
abbrev pub is_sd : Option CardKind → Bool
is_sd None = false
is_sd (Some Sd) = true
is_sd (Some Mmc) = false

-- of the SCR, which SD cards have
abbrev pub missing_scr : Bool → List (List ℕ) → List ℕ
missing_scr is_sd all = if is_sd then missing_text all (codes "scr") Scr else []

-- of all keys that a card file must have
abbrev pub missing_texts : Bool → List (List ℕ) → List ℕ
missing_texts is_sd all =
    missing_text all (codes "kind") Kind
    ++ (missing_registers all ++ (missing_text all (codes "sectors") Sectors ++ missing_scr is_sd all))
