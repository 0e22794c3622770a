-- Relation (docs/AUDIT.md, "What to read").
-- CRC7 (SD Physical Layer 6.00, section 4.5; JESD84-B51, section 8.2): strings of bits as polynomials over {0, 1},
-- modulo x^7 + x^3 + 1. A number below 128 stands for a remainder: its bit i for x^i.
use Rattle.std.specs.Prelude.{ℕ, zero, suc, ◌*◌, ◌/◌, ◌%◌, ◌==◌, List, [], ◌∷◌, ◌++◌, length, Bool, if◌then◌else◌}
use Rattle.std.specs.Prelude.{nat_lt, bit_xor}

-- x times p: what reaches x^7 is x^7 + x^3 + 1, which is 137, less
unfoldable pub times_x : ℕ → ℕ
times_x p = if nat_lt p 64 then 2 * p else bit_xor (2 * p) 137

-- x^i
unfoldable pub power : ℕ → ℕ
power zero = 1
power (suc i) = times_x (power i)

-- the sum of the remainders of the bits that are set; the last bit stands for x^0
unfoldable pub remainder : List Bool → ℕ
remainder [] = 0
remainder (bit ∷ bits) = if bit then bit_xor (power (length bits)) (remainder bits) else remainder bits

-- the bits of a byte, the highest first
abbrev pub byte_bits : ℕ → List Bool
byte_bits b =
    (b / 128 % 2 == 1) ∷ (b / 64 % 2 == 1) ∷ (b / 32 % 2 == 1) ∷ (b / 16 % 2 == 1)
    ∷ (b / 8 % 2 == 1) ∷ (b / 4 % 2 == 1) ∷ (b / 2 % 2 == 1) ∷ (b % 2 == 1) ∷ []

-- the bits of these bytes, in the order of sending
abbrev pub bits_of : List ℕ → List Bool
bits_of [] = []
bits_of (b ∷ bs) = byte_bits b ++ bits_of bs
