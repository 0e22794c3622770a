-- What is wrong with a line of a card file.
use Rattle.std.specs.Prelude.{ℕ, List, [], ◌∷◌, Option, None, Some, if◌then◌else◌}
use Rattle.card_text.specs.CardFile.{has_room, is_repeated}
use Rattle.card_text.specs.CardLines.{card_line_of, is_of}
use Rattle.card_text.specs.Parts.{parts}
use Rattle.card_text.specs.declared.card_line.CardLine.{CardLine}
use Rattle.card_text.specs.declared.text_line.Line.{Line}
use Rattle.card_text.specs.declared.text_line.Line.TheVariants.{Bad, Says, Skipped}
use Rattle.mmc_frame.specs.declared.kind.Kind.{Kind as CardKind}
use Rattle.card_check.specs.Keys.{key_of}
use Rattle.card_check.specs.Strays.{stray_in}
use Rattle.card_check.specs.declared.cause.Cause.{Cause}
use Rattle.card_check.specs.declared.cause.Cause.TheVariants.{OtherKind, Repeated, Stray as HasStray, TooManyFaults, UnknownKey, Value}
use Rattle.card_check.specs.declared.key.Key.{Key}
use Rattle.card_check.specs.declared.stray.Stray.{Stray}

-- what stands after a key isn't what has to, or there is no such key
abbrev pub cause_by : Option Key → Cause
cause_by (Some key) = Value key
cause_by None = UnknownKey

abbrev pub key_of_fields : List (List ℕ) → Option Key
key_of_fields (key ∷ others) = key_of key
key_of_fields [] = None

-- the key that a line begins with
abbrev pub key_in : List ℕ → Option Key
key_in line = key_of_fields (parts 32 line)

abbrev pub cause_with : Option Stray → Option Key → Cause
cause_with (Some stray) key = HasStray stray
cause_with None key = cause_by key

-- what is wrong with a line that isn't of the grammar
abbrev pub cause_of_bad : List ℕ → Cause
cause_of_bad line = cause_with (stray_in line) (key_in line)

-- it repeats a line above it, or plans a fault too many
abbrev pub why_too_much : List CardLine → CardLine → Option Cause
why_too_much above line =
    if is_repeated above line then Some Repeated else (if has_room above line then None else Some TooManyFaults)

-- why what a line says can't stand below those above it
abbrev pub why_unfit : Option CardKind → List CardLine → CardLine → Option Cause
why_unfit None above line = why_too_much above line
why_unfit (Some kind) above line = if is_of kind line then why_too_much above line else Some (OtherKind kind)

abbrev pub wrong_by : Option CardKind → List CardLine → List ℕ → Line CardLine → Option Cause
wrong_by kind above text Bad = Some (cause_of_bad text)
wrong_by kind above text Skipped = None
wrong_by kind above text (Says line) = why_unfit kind above line

-- what is wrong with a line below the good ones above it
abbrev pub wrong_with : Option CardKind → List CardLine → List ℕ → Option Cause
wrong_with kind above text = wrong_by kind above text (card_line_of text)
