-- A register that is made of a number and its check.
use Rattle.std.proofs.Common.{◌≡◌, ℕ, zero, suc, ◌+◌, ◌*◌, ◌/◌, ◌%◌, ◌^◌, ◌<◌, List, [], ◌∷◌, ◌++◌, length, true, false}
use Rattle.std.proofs.Common.{replicate, refl, ap, ◌∙◌, arith, eq-eqb}
use Rattle.std.specs.Int.{byte_at, bytes_high_first}
use Rattle.std.proofs.Math.Nat.{pow-suc}
use Rattle.byteorder.specs.Endian.{big_bytes, big_from}
use Rattle.byteorder.specs.Numbers.{big_from-cons, big_number-reads_back, length-bytes_high_first}
use Rattle.mmc_frame.specs.Check.{bits_of, remainder}
use Rattle.mmc_frame.specs.Flips.{AreBytes}
use Rattle.mmc_frame.specs.RegisterFrame.{has_end_bit, is_sound_register}
use Rattle.mmc_frame.proofs.Frames.{register_with_check}
use Rattle.mmc_frame.proofs.Linear.{remainder-lt}
use Rattle.mmc_regs.specs.Register.{checked_register, register_number}

-- the check of the number's bytes
abbrev pub check_in : ℕ → ℕ
check_in number = remainder (bits_of (big_bytes 15 (number / 256)) ++ replicate 7 false)

small_check : (number : ℕ) → check_in number < 128
small_check number = remainder-lt (bits_of (big_bytes 15 (number / 256)) ++ replicate 7 false)

pub checked_sound : (number : ℕ) → is_sound_register (checked_register number) ≡ true
unfolding checked_register
checked_sound number =
    let bytes = big_bytes 15 (number / 256) in
    let twice : 2 * check_in number + 1 ≡ check_in number * 2 + 1 = omega arith in
    ap (λ (last : ℕ). is_sound_register (bytes ++ last ∷ [])) twice
    ∙ register_with_check bytes (check_in number) (length-bytes_high_first 15 (number / 256)) (small_check number) refl

pub checked_end : (number : ℕ) → has_end_bit (checked_register number) ≡ true
unfolding checked_register
checked_end number = eq-eqb ((2 * check_in number + 1) % 2) 1 (omega arith)

pub checked_length : (number : ℕ) → length (checked_register number) ≡ 16
unfolding checked_register
checked_length number = refl

byte_small : (k n : ℕ) → byte_at k n < 256
byte_small zero n = omega arith
byte_small (suc k) n = omega arith

bytes_then : (k n last : ℕ) → last < 256 → AreBytes (bytes_high_first k n ++ last ∷ [])
bytes_then zero n last small = (small, tt)
bytes_then (suc k) n last small = (byte_small k n, bytes_then k n last small)

pub checked_bytes : (number : ℕ) → AreBytes (checked_register number)
unfolding checked_register
checked_bytes number =
    bytes_then 15 (number / 256) (2 * check_in number + 1) (omega (arith, small_check number))

one_more : (x p : ℕ) → x * (p * 256) ≡ x * p * 256
one_more x p = grind arith

-- a number with one more byte
big_from_last : (n : ℕ) (xs : List ℕ) (last : ℕ) → length xs ≡ n
    → big_from 0 (suc n) (xs ++ last ∷ []) ≡ big_from 0 n xs * 256 + last
big_from_last zero [] last e = omega arith
big_from_last zero (x ∷ xs) last e = absurd (omega arith)
big_from_last (suc n) [] last e = absurd (omega arith)
big_from_last (suc n) (x ∷ xs) last e =
    let whole = big_from-cons 0 (suc n) x (xs ++ last ∷ []) in
    let front = big_from-cons 0 n x xs in
    let rest = big_from_last n xs last (omega arith) in
    let shift : x * 256 ^ suc n ≡ x * 256 ^ n * 256 = ap (λ p. x * p) (pow-suc 256 n) ∙ one_more x (256 ^ n) in
    omega (arith, whole, front, rest, shift)

-- the number of the register: that number, and the check in place of its lowest byte
pub checked_number_is : (number : ℕ) → number < 256 ^ 16
    → register_number (checked_register number) ≡ number / 256 * 256 + (2 * check_in number + 1)
unfolding checked_register
checked_number_is number fits =
    let bytes = big_bytes 15 (number / 256) in
    let small : number / 256 < 256 ^ 15 = omega arith in
    let front : big_from 0 15 (bytes ++ []) ≡ number / 256 = big_number-reads_back 15 (number / 256) [] small in
    big_from_last 15 bytes (2 * check_in number + 1) (length-bytes_high_first 15 (number / 256))
    ∙ ap (λ n. n * 256 + (2 * check_in number + 1)) front

pub check_small : (number : ℕ) → 2 * check_in number + 1 < 256
check_small number = omega (arith, small_check number)
