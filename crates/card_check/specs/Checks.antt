-- What a check tells of a card file.
use Rattle.std.specs.Prelude.{◌≡◌, ◌⊎◌, ℕ, ◌++◌, List, Option}
use Rattle.std.specs.Io.KnownBytes.{Appends}
use Rattle.card_text.specs.CardFile.{IsBadCard, IsFirstBadCardLine, IsIncomplete, kind_in}
use Rattle.card_text.specs.declared.fault.CardFault.{CardFault}
use Rattle.card_text.specs.declared.fault.CardFault.TheVariants.{NoMemory}
use Rattle.card_check.specs.Missing.{is_sd, missing_texts}
use Rattle.card_check.specs.WrongLines.{findings_text}

-- the text is no card file: some line of it is bad, or a key is missing
abbrev pub IsNoCardFile : List (List ℕ) → Type 0
IsNoCardFile all = (fault : CardFault) × (fault ≡ NoMemory → ⊥) × IsBadCard all fault

-- a line for each wrong line of these, and after them one for each key that is missing
abbrev pub all_findings : List (List ℕ) → List ℕ
all_findings all = findings_text all ++ missing_texts (is_sd (kind_in all)) all

-- Some line is bad, and the wrong lines are written; or none is, and the keys that are missing are written too.
abbrev pub AreListed : Option (List ℕ) → Option (List ℕ) → List (List ℕ) → Type 0
AreListed old new all =
    ((n : ℕ) × IsFirstBadCardLine (kind_in all) all n × Appends old new (findings_text all))
    ⊎ (IsIncomplete all × Appends old new (all_findings all))
