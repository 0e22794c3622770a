-- A script: its lines, the events that they say, and the first line that says none.
use Rattle.std.specs.Prelude.{◌≡◌, ◌≢◌, ℕ, ◌+◌, ◌-◌, ◌<◌, ◌≤◌, List, [], Option, if◌then◌else◌, length, map, slice_index_or, ⊤}
use Rattle.card_text.specs.declared.event.ScriptEvent.{ScriptEvent}
use Rattle.card_text.specs.declared.fault.ScriptFault.{ScriptFault}
use Rattle.card_text.specs.declared.fault.ScriptFault.TheVariants.{BadLine, NoMemory}
use Rattle.card_text.specs.declared.text_line.Line.{Line}
use Rattle.card_text.specs.declared.text_line.Line.TheVariants.{Bad, Skipped}
use Rattle.card_text.specs.Parts.{parts}
use Rattle.card_text.specs.Lines.{event_of}
use Rattle.card_text.specs.TextLines.{is_skipped, line_by, said_in}

-- what a line says: one event, or nothing where it is skipped
unfoldable pub line_of : List ℕ → Line ScriptEvent
line_of line = if is_skipped line then Skipped else line_by (event_of (parts 32 line))

-- the lines between the line feeds; after a last line feed stands an empty line, which is skipped
abbrev pub lines : List ℕ → List (List ℕ)
lines text = parts 10 text

-- the events of lines, in order, where each line is of the grammar
unfoldable pub events_in : List (List ℕ) → Option (List ScriptEvent)
events_in all = said_in (map line_of all)

-- line n, counted from 1, is the first that is not of the grammar
pub record IsFirstBadLine (all : List (List ℕ)) (n : ℕ) : Type 0 where
  pub counted : 0 < n
  pub stands : n ≤ length all
  pub bad : line_of (slice_index_or all (n - 1) []) ≡ Bad
  pub good_before : (k : ℕ) → k + 1 < n → line_of (slice_index_or all k []) ≢ Bad

-- the fault names the first bad line; want of memory says nothing of the text
abbrev pub IsBadLine : List (List ℕ) → ScriptFault → Type 0
IsBadLine all (BadLine n) = IsFirstBadLine all n
IsBadLine all NoMemory = ⊤
