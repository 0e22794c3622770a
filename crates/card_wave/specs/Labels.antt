-- What a waveform with labels says of an exchange: its number and its phase, as texts.
use Rattle.std.specs.Prelude.{ℕ, ◌+◌, ◌*◌, ◌%◌, ◌++◌, List, [], ◌∷◌, codes, Option, Some, None, slice_index}
use Rattle.std.specs.Fmt.{decimal}
use Rattle.card_wave.specs.declared.phase.Phase.{Phase}
use Rattle.card_wave.specs.declared.phase.Phase.TheVariants.{Command, Read, Write, Busy}
use Rattle.card_wave.specs.Header.{text_of_lines}

-- the phase of a command with this frame: the low six bits of its first byte are its index
abbrev pub phase_of_frame : List ℕ → Phase
phase_of_frame frame = Command (slice_index frame 0 % 64)

-- a phase by its name
abbrev pub phase_text : Phase → List ℕ
phase_text (Command index) = codes "CMD" ++ decimal index
phase_text Read = codes "READ"
phase_text Write = codes "WRITE"
phase_text Busy = codes "BUSY"

-- the lines of the number and of the phase: the text, and the identifier after it
abbrev pub number_line : ℕ → List ℕ
number_line number = codes "s" ++ (decimal number ++ codes " x")

abbrev pub phase_line : Phase → List ℕ
phase_line phase = codes "s" ++ (phase_text phase ++ codes " p")

-- the labels of an exchange, from this clock on: the time, the number, and the phase
abbrev pub label_text : ℕ → ℕ → Phase → List ℕ
label_text clock number phase =
    text_of_lines ((codes "#" ++ decimal (40 * clock)) ∷ number_line number ∷ phase_line phase ∷ [])

-- the same, where there are labels
abbrev pub labels_text : Option ℕ → ℕ → Phase → List ℕ
labels_text (Some number) clock phase = label_text clock number phase
labels_text None clock phase = []

-- the number of the next exchange, where there are labels
abbrev pub next_number : Option ℕ → Option ℕ
next_number (Some number) = Some (number + 1)
next_number None = None
