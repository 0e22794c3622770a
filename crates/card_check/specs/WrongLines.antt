-- The wrong lines of a card file and of a script, and what is written of them.
use Rattle.std.specs.Prelude.{ℕ, ◌+◌, List, [], ◌∷◌, ◌++◌, Option, None, Some, Result, Ok, Err, codes}
use Rattle.std.specs.Io.KnownBytes.{Appends}
use Rattle.std.specs.List.{flat_map}
use Rattle.text_out.specs.Writing.{AppendsFront}
use Rattle.card_text.specs.CardFile.{kind_in}
use Rattle.card_text.specs.CardLines.{card_line_of}
use Rattle.card_text.specs.Script.{line_of}
use Rattle.card_text.specs.declared.card_line.CardLine.{CardLine}
use Rattle.card_text.specs.declared.event.ScriptEvent.{ScriptEvent}
use Rattle.card_text.specs.declared.text_line.Line.{Line}
use Rattle.card_text.specs.declared.text_line.Line.TheVariants.{Bad, Says}
use Rattle.mmc_frame.specs.declared.kind.Kind.{Kind as CardKind}
use Rattle.card_check.specs.Causes.{wrong_with}
use Rattle.card_check.specs.ByLines.{by_lines}
use Rattle.card_check.specs.Findings.{cause_words, wrong_line}
use Rattle.card_check.specs.Scripts.{event_words}
use Rattle.card_check.specs.declared.cause.Cause.{Cause}
use Rattle.card_check.specs.declared.finding.Finding.{Finding}

-- Of a card file.

-- a wrong line: its number, its text, and what is wrong with it
pub record WrongLine : Type 0 where
  pub number : ℕ
  pub text : List ℕ
  pub cause : Cause

-- a line of this number, where something is wrong with it
abbrev pub numbered : ℕ → List ℕ → Option Cause → List WrongLine
numbered number text (Some cause) = (record { number = number; text = text; cause = cause }) ∷ []
numbered number text None = []

-- the good lines, once one more was judged, which says this
abbrev pub good_with : List CardLine → Option Cause → Line CardLine → List CardLine
good_with above None (Says line) = above ++ (line ∷ [])
good_with above wrong said = above

-- The wrong lines among these, which are counted from a number on: each is judged below the good ones above it.
unfoldable pub wrong_from : Option CardKind → ℕ → List CardLine → List (List ℕ) → List WrongLine
wrong_from kind number above [] = []
wrong_from kind number above (text ∷ others) =
    numbered number text (wrong_with kind above text)
    ++ wrong_from kind (number + 1) (good_with above (wrong_with kind above text) (card_line_of text)) others

-- those of a whole card file
abbrev pub wrong_lines : List (List ℕ) → List WrongLine
wrong_lines all = wrong_from (kind_in all) 1 [] all

-- what is written of one, and of all
abbrev pub wrong_text : WrongLine → List ℕ
wrong_text wrong = wrong_line (codes "card") wrong.number wrong.text (cause_words wrong.cause)

abbrev pub findings_text : List (List ℕ) → List ℕ
findings_text all = flat_map wrong_text (wrong_lines all)

-- a finding as a wrong line
abbrev pub shown : Finding → WrongLine
shown finding = record { number = finding.line; text = finding.found.now; cause = finding.cause }

-- Of a script.

-- what is written of a line of this number, by what it says
abbrev pub bad_text : ℕ → List ℕ → Line ScriptEvent → List ℕ
bad_text number text Bad = wrong_line (codes "script") number text (event_words text)
bad_text number text said = []

abbrev pub bad_line : ℕ → List ℕ → List ℕ
bad_line number text = bad_text number text (line_of text)

-- what is written of these lines, which are counted from a number on
abbrev pub bad_texts : ℕ → List (List ℕ) → List ℕ
bad_texts number all = by_lines bad_line number all

-- What goes out.

-- all of the text, or after a fault a front of it
abbrev pub Prints : {A E : Type 0} → Option (List ℕ) → Option (List ℕ) → Result A E → List ℕ → Type 0
Prints old new (Ok answer) text = Appends old new text
Prints old new (Err fault) text = AppendsFront old new text
