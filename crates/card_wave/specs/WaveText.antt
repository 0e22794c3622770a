-- A waveform as text: Value Change Dump (IEEE 1364-2005, section 18).
use Rattle.std.specs.Prelude.{◌≡◌, ℕ, ◌+◌, ◌*◌, ◌++◌, List, [], ◌∷◌, Bool, true, false, codes, slice_index_or, Option, Result}
use Rattle.std.specs.Prelude.{Ok, Err}
use Rattle.std.specs.List.{flat_map}
use Rattle.std.specs.Fmt.{decimal}
use Rattle.std.specs.Io.KnownBytes.{Appends}
use Rattle.text_out.specs.Writing.{AppendsFront}
use Rattle.card_wave.specs.declared.sample.Sample.{Sample}
use Rattle.card_wave.specs.declared.wave_writer.WaveEnd.{WaveEnd}
use Rattle.card_wave.specs.declared.wave_writer.WaveWriter.{WaveWriter}

-- what is written of a level that falls, of one that rises, and of one that stays
abbrev pub changed : Bool → Bool → List ℕ → List ℕ → List ℕ
changed true false falls rises = falls
changed false true falls rises = rises
changed true true falls rises = []
changed false false falls rises = []

-- a signal that has changed: its level, 0 or 1, and its identifier
abbrev pub change_text : ℕ → Bool → Bool → List ℕ
change_text identifier was is = changed was is (48 ∷ identifier ∷ 10 ∷ []) (49 ∷ identifier ∷ 10 ∷ [])

-- the same of a data line, whose identifiers are a to h
abbrev pub data_change_text : Sample → Sample → ℕ → List ℕ
data_change_text was is k = change_text (97 + k) (slice_index_or was.dat k false) (slice_index_or is.dat k false)

-- CMD is C
unfoldable pub changes_text : Sample → Sample → List ℕ
changes_text was is =
    change_text 67 was.cmd is.cmd ++ flat_map (data_change_text was is) (0 ∷ 1 ∷ 2 ∷ 3 ∷ 4 ∷ 5 ∷ 6 ∷ 7 ∷ [])

-- the level of CLK, on a line of its own
abbrev pub clock_text : Bool → List ℕ
clock_text false = (10 ∷ codes "0!") ++ 10 ∷ []
clock_text true = (10 ∷ codes "1!") ++ 10 ∷ []

-- a time in nanoseconds, at which CLK gets this level
unfoldable pub edge_text : ℕ → Bool → List ℕ
edge_text time level = codes "#" ++ (decimal time ++ clock_text level)

-- a clock: CLK falls, and the signals change, at 40 ns a clock; 20 ns later CLK rises
unfoldable pub sample_text : WaveEnd → Sample → List ℕ
sample_text end sample =
    edge_text (40 * end.clock) false ++ (changes_text end.lines sample ++ edge_text (40 * end.clock + 20) true)

-- the end of a waveform with one clock more
abbrev pub next_end : WaveEnd → Sample → WaveEnd
next_end end sample = record { clock = end.clock + 1; lines = sample }

-- the end after some clocks more
unfoldable pub end_after : WaveEnd → List Sample → WaveEnd
end_after end [] = end
end_after end (s ∷ ss) = end_after (next_end end s) ss

-- clocks, one after the other
unfoldable pub wave_text : WaveEnd → List Sample → List ℕ
wave_text end [] = []
wave_text end (s ∷ ss) = sample_text end s ++ wave_text (next_end end s) ss

-- these clocks were drawn
pub record Drawn {W : Type 0} (contents : W → Option (List ℕ)) (old new : WaveWriter W) (samples : List Sample) : Type 0 where
  pub written : Appends (contents old.out) (contents new.out) (wave_text old.end samples)
  pub end : new.end ≡ end_after old.end samples

-- these clocks were drawn, or after a fault a front of their text
abbrev pub Draws : {W T E : Type 0} → (W → Option (List ℕ)) → WaveWriter W → WaveWriter W → Result T E → List Sample
    → Type 0
Draws contents old new (Ok _) samples = Drawn contents old new samples
Draws contents old new (Err _) samples = AppendsFront (contents old.out) (contents new.out) (wave_text old.end samples)
