-- What a waveform begins with: its time unit, its signals and labels with their identifiers, and idle lines at time 0.
use Rattle.std.specs.Prelude.{ℕ, ◌++◌, Bool, true, false, List, [], ◌∷◌, codes}
use Rattle.std.specs.List.{flat_map}
use Rattle.card_wave.specs.declared.wave_writer.WaveEnd.{WaveEnd}
use Rattle.card_wave.specs.Samples.{idle}

-- lines with their line feeds
abbrev pub text_of_lines : List (List ℕ) → List ℕ
text_of_lines lines = flat_map (λ line. line ++ 10 ∷ []) lines

-- the time unit, and the signals
abbrev pub signal_lines : List (List ℕ)
signal_lines =
    codes "$timescale 1 ns $end" ∷ codes "$scope module card $end"
    ∷ codes "$var wire 1 ! CLK $end" ∷ codes "$var wire 1 C CMD $end"
    ∷ codes "$var wire 1 a DAT0 $end" ∷ codes "$var wire 1 b DAT1 $end"
    ∷ codes "$var wire 1 c DAT2 $end" ∷ codes "$var wire 1 d DAT3 $end"
    ∷ codes "$var wire 1 e DAT4 $end" ∷ codes "$var wire 1 f DAT5 $end"
    ∷ codes "$var wire 1 g DAT6 $end" ∷ codes "$var wire 1 h DAT7 $end" ∷ []

-- the two labels, where there are labels
abbrev pub label_lines : Bool → List (List ℕ)
label_lines true = codes "$var string 1 x EXCHANGE $end" ∷ codes "$var string 1 p PHASE $end" ∷ []
label_lines false = []

-- the levels at time 0
abbrev pub start_lines : List (List ℕ)
start_lines =
    codes "$upscope $end" ∷ codes "$enddefinitions $end"
    ∷ codes "#0" ∷ codes "$dumpvars" ∷ codes "0!" ∷ codes "1C" ∷ codes "1a" ∷ codes "1b" ∷ codes "1c" ∷ codes "1d"
    ∷ codes "1e" ∷ codes "1f" ∷ codes "1g" ∷ codes "1h" ∷ codes "$end" ∷ []

-- the header, with labels or without
abbrev pub header_text : Bool → List ℕ
header_text has_labels =
    text_of_lines signal_lines ++ (text_of_lines (label_lines has_labels) ++ text_of_lines start_lines)

-- after the header: the lines are idle, and the first clock begins at 40 ns
abbrev pub beginning : WaveEnd
beginning = record { clock = 1; lines = idle }
