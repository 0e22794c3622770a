-- Numbers in messages.
use Rattle.std.specs.Prelude.{List, drop, ℕ}
use Rattle.byteorder.specs.Endian.{big_number}

-- the number in so many bytes from this place on, the highest byte first
abbrev pub number_at : ℕ → ℕ → List ℕ → ℕ
number_at place count bytes = big_number count (drop place bytes)
