-- Bytes as their longest repeats: a byte, and how often it comes in a row.
use Rattle.std.specs.Prelude.{◌≡◌, replicate, ℕ, ◌+◌, ◌/◌, ◌%◌, ◌==◌, ◌<◌, ◌++◌, List, [], ◌∷◌, Option, if◌then◌else◌}
use Rattle.std.specs.Prelude.{length, map}
use Rattle.std.specs.List.{join_with_byte}
use Rattle.std.specs.Fmt.{decimal}
use Rattle.std.specs.Io.KnownBytes.{Appends}
use Rattle.text_out.specs.Hex.{hex_digit}

-- a byte, and how often it comes in a row
abbrev pub Repeat : Type 0
Repeat = ℕ × ℕ

-- one byte more before the repeats: it lengthens the first of them where that is of the same byte
abbrev pub with_byte : ℕ → List Repeat → List Repeat
with_byte b [] = (b, 1) ∷ []
with_byte b (r ∷ rs) = if b == r.0 then (b, r.1 + 1) ∷ rs else (b, 1) ∷ r ∷ rs

-- the longest repeats of the bytes
unfoldable pub repeats : List ℕ → List Repeat
repeats [] = []
repeats (b ∷ bs) = with_byte b (repeats bs)

-- HH*N
abbrev pub repeat_text : Repeat → List ℕ
repeat_text r = hex_digit (r.0 / 16) ∷ hex_digit (r.0 % 16) ∷ 42 ∷ decimal r.1

-- HH*N,HH*N,..
unfoldable pub repeats_text : List ℕ → List ℕ
repeats_text bytes = join_with_byte 44 (map repeat_text (repeats bytes))

-- the bytes of repeats
unfoldable pub spread : List Repeat → List ℕ
spread [] = []
spread (r ∷ rs) = replicate r.1 r.0 ++ spread rs

-- no repeat goes on in the next
unfoldable pub NeighboursDiffer : List Repeat → Type 0
NeighboursDiffer [] = Unit {0}
NeighboursDiffer (r ∷ []) = Unit {0}
NeighboursDiffer (r ∷ q ∷ rs) = (r.0 ≡ q.0 → ⊥) × NeighboursDiffer (q ∷ rs)

-- the first repeat went out, and `rest` is after it
abbrev pub PutsFirst : Option (List ℕ) → Option (List ℕ) → List ℕ → List ℕ → Type 0
PutsFirst old new bytes rest = (length rest < length bytes) × (front : List ℕ)
    × (repeats_text bytes ≡ front ++ repeats_text rest) × Appends old new front
