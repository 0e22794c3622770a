-- What a clock shows of the lines CMD and DAT0 to DAT7. A line that nobody drives is high.
use Rattle.std.specs.Prelude.{ℕ, ◌-◌, ◌++◌, List, length, replicate, reverse, Bool, true}
use Rattle.card_wave.specs.declared.sample.Sample.{Sample}

-- nobody drives a line
abbrev pub idle : Sample
idle = record { cmd = true; dat = replicate 8 true }

-- a bit on CMD
abbrev pub on_cmd : Bool → Sample
on_cmd level = record { cmd = level; dat = replicate 8 true }

-- a bit on each of so many data lines, the highest of them first, as of DAT3 to DAT0
abbrev pub on_lines : List Bool → Sample
on_lines levels = record { cmd = true; dat = reverse levels ++ replicate (8 - length levels) true }

-- so many clocks that show the same
unfoldable pub held : ℕ → Sample → List Sample
held count sample = replicate count sample
