-- A register's bytes are those of its number.
use Rattle.std.specs.Prelude.{◌%◌, ◌*◌, ◌+◌, ◌/◌, ◌<◌, ◌^◌, ◌∷◌, ◌≡◌, List, [], length, slice_index, suc, zero, ℕ}
use Rattle.std.proofs.Common.{◌∙◌, ap, arith, refl, sym}
use Rattle.std.proofs.Math.Nat.{div-one, mod-eq_of_lt, mul-add-div_right, mul-add-mod_self_right, mul_assoc, one-le-pow, pow-suc}
use Rattle.std.proofs.lemmas.Nat.{div-mul-add, pow-add}
use Rattle.std.specs.Int.{byte_at, bytes_high_first}
use Rattle.byteorder.specs.Endian.{big_number}
use Rattle.byteorder.specs.Numbers.{big_from-cons, big_from-lt}
use Rattle.mmc_frame.specs.Flips.{AreBytes}

by_place : (k n : ℕ) → byte_at k n ≡ n / 256 ^ k % 256
by_place zero n = ap (λ (m : ℕ). m % 256) (sym (div-one n))
by_place (suc k) n = refl

below : (xs : List ℕ) → AreBytes xs → (k : ℕ) → slice_index xs k < 256
below [] are k = omega arith
below (x ∷ xs) (byte, are) zero = byte
below (x ∷ xs) (byte, are) (suc k) = below xs are k

-- the byte in front
top : (k a n : ℕ) → a < 256 → n < 256 ^ k → byte_at k (a * 256 ^ k + n) ≡ a
top k a n byte small =
    by_place k (a * 256 ^ k + n) ∙ ap (λ (m : ℕ). m % 256) (div-mul-add a (256 ^ k) n small) ∙ mod-eq_of_lt byte

-- a power of 256 is above zero
some_power : (n : ℕ) → zero < 256 ^ n
some_power n = let some = one-le-pow n 256 (omega arith) in omega (arith, some)

-- What stands above the byte at this place doesn't count for it.
lower : (k j a n : ℕ) → byte_at k (a * 256 ^ (suc j + k) + n) ≡ byte_at k n
lower k j a n =
    let split : a * 256 ^ (suc j + k) ≡ a * 256 ^ j * 256 * 256 ^ k =
    ap (λ (m : ℕ). a * m) (pow-add 256 (suc j) k) ∙ sym (mul_assoc a (256 ^ suc j) (256 ^ k))
    ∙ ap (λ (m : ℕ). m * 256 ^ k) (ap (λ (m : ℕ). a * m) (pow-suc 256 j) ∙ sym (mul_assoc a (256 ^ j) 256)) in
    by_place k (a * 256 ^ (suc j + k) + n)
    ∙ ap (λ (m : ℕ). m % 256) (ap (λ (m : ℕ). (m + n) / 256 ^ k) split ∙ mul-add-div_right (some_power k) (a * 256 ^ j * 256) n)
    ∙ mul-add-mod_self_right (a * 256 ^ j) 256 (n / 256 ^ k) ∙ sym (by_place k n)

lower_bytes : (k j a n : ℕ) → bytes_high_first k (a * 256 ^ (j + k) + n) ≡ bytes_high_first k n
lower_bytes zero j a n = refl
lower_bytes (suc k) j a n =
    let first : byte_at k (a * 256 ^ (j + suc k) + n) ≡ byte_at k n =
    ap (λ (m : ℕ). byte_at k (a * 256 ^ m + n)) {y = suc j + k} (omega arith) ∙ lower k j a n in
    let rest : bytes_high_first k (a * 256 ^ (j + suc k) + n) ≡ bytes_high_first k n =
    ap (λ (m : ℕ). bytes_high_first k (a * 256 ^ m + n)) {y = suc j + k} (omega arith) ∙ lower_bytes k (suc j) a n in
    rw (first, rest) refl

-- The bytes of the number that some bytes make are these bytes.
pub bytes_of_number : (n : ℕ) (xs : List ℕ) → length xs ≡ n → AreBytes xs → bytes_high_first n (big_number n xs) ≡ xs
bytes_of_number zero [] long are = refl
bytes_of_number zero (x ∷ xs) long are = absurd (omega (arith, long))
bytes_of_number (suc n) [] long are = absurd (omega (arith, long))
bytes_of_number (suc n) (x ∷ xs) long (byte, are) =
    let number : big_number (suc n) (x ∷ xs) ≡ x * 256 ^ n + big_number n xs =
    ap (λ (m : ℕ). x * 256 ^ n + m) (big_from-cons 0 n x xs) in
    let small : big_number n xs < 256 ^ n = big_from-lt 0 n xs (below xs are) in
    let first = top n x (big_number n xs) byte small in
    let rest : bytes_high_first n (x * 256 ^ n + big_number n xs) ≡ xs =
    ap (λ (m : ℕ). bytes_high_first n (x * 256 ^ m + big_number n xs)) {y = zero + n} (omega arith)
    ∙ lower_bytes n zero x (big_number n xs) ∙ bytes_of_number n xs (omega (arith, long)) are in
    rw (number, first, rest) refl
