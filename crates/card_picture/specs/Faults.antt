-- The fault that was planned for an exchange, in words.
use Rattle.std.specs.Prelude.{ℕ, Bool, false, List, [], ◌++◌, codes, if◌then◌else◌, Option, None, Some}
use Rattle.card_explain.specs.Faults.{fault_text}
use Rattle.card_explain.specs.declared.line.Note.{Note}

-- a fault has fallen
abbrev pub has_fallen : Option Note → Bool
has_fallen None = false
has_fallen (Some note) = note.fell

-- a planned fault, and whether it fell
unfoldable pub fault_words : Option Note → List ℕ
fault_words None = []
fault_words (Some note) = (if note.fell then codes "fault: " else codes "doesn't fit: ") ++ fault_text note.fault
