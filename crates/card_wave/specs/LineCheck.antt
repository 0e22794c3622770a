-- CRC16 (SD Physical Layer 6.00, section 4.5; JESD84-B51, section 8.2): strings of bits as polynomials over {0, 1},
-- modulo x^16 + x^12 + x^5 + 1. A number below 2^16 stands for a remainder: its bit i for x^i.
use Rattle.std.specs.Prelude.{ℕ, zero, suc, ◌*◌, List, [], ◌∷◌, ◌++◌, length, replicate, Bool, false, if◌then◌else◌}
use Rattle.std.specs.Prelude.{nat_lt, bit_xor, map, ◌/◌, ◌%◌, ◌^◌, ◌==◌}

-- x times p: what reaches x^16 is x^16 + x^12 + x^5 + 1, which is 69665, less
unfoldable pub times_x : ℕ → ℕ
times_x p = if nat_lt p 32768 then 2 * p else bit_xor (2 * p) 69665

-- x^i
unfoldable pub power : ℕ → ℕ
power zero = 1
power (suc i) = times_x (power i)

-- the sum of the remainders of the bits that are set; the last bit stands for x^0
unfoldable pub remainder : List Bool → ℕ
remainder [] = 0
remainder (bit ∷ bits) = if bit then bit_xor (power (length bits)) (remainder bits) else remainder bits

-- the CRC16 of the bits of a line, in the order of sending: their remainder with sixteen zeros after them
unfoldable pub line_check : List Bool → ℕ
line_check bits = remainder (bits ++ replicate 16 false)

-- the sixteen bits of a check, the highest first
abbrev pub check_bits : ℕ → List Bool
check_bits check =
    map (λ place. check / 2 ^ place % 2 == 1)
    (15 ∷ 14 ∷ 13 ∷ 12 ∷ 11 ∷ 10 ∷ 9 ∷ 8 ∷ 7 ∷ 6 ∷ 5 ∷ 4 ∷ 3 ∷ 2 ∷ 1 ∷ 0 ∷ [])
