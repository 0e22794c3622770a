-- The bytes and bits of a number that is written in bytes.
use Rattle.std.proofs.Common.{◌≡◌, ℕ, zero, suc, ◌+◌, ◌-◌, ◌*◌, ◌/◌, ◌%◌, ◌^◌, ◌<◌, ◌≤◌, inl, inr, List, length, true, false}
use Rattle.std.proofs.Common.{◌↔◌, add_comm, add-zero, sym, ap, ◌∙◌, arith}
use Rattle.std.specs.Prelude.{slice_index}
use Rattle.std.proofs.lemmas.Bool.{cases_eq, cases_lt}
use Rattle.std.proofs.lemmas.Nat.{pow_pos, pow-add, shr-shr, field_of, mod-pow-add, shr_high, mod_low, mod_below, mul-add-lt}
use Rattle.std.proofs.Math.Nat.{mod-eq_of_lt, pow-le-pow_right}
use Rattle.std.specs.Int.{byte_at, bytes_high_first}
use Rattle.std.specs.Prelude.{[], ◌∷◌, ◌++◌, min}
use Rattle.text_out.specs.Hex.{hex_text}
use Rattle.std.proofs.Math.Pow.{mod-mod-pow}
use Rattle.byteorder.specs.Endian.{big_from, little_from}
use Rattle.byteorder.proofs.Bytes.{pow256}
use Rattle.mmc_frame.specs.Field.{field}
use Rattle.card_decode.specs.Registers.{is_low_first, number_of}
use Rattle.card_decode.specs.Words.{digits_text}
use Rattle.card_decode.specs.declared.register.Register.{Register}

pub big_from-lt : (n i : ℕ) (xs : List ℕ) → ((j : ℕ) → slice_index xs j < 256) → big_from i n xs < 2 ^ (8 * n)
big_from-lt zero i xs small = omega arith
big_from-lt (suc n) i xs small =
    let rest = big_from-lt n (suc i) xs small in
    let top = small i in
    let further : 8 * suc n ≡ 8 + 8 * n = omega arith in
    let whole : 2 ^ (8 * suc n) ≡ 256 * 2 ^ (8 * n) =
    ap (λ w. 2 ^ w) further ∙ pow-add 2 8 (8 * n) in
    let less = mul-add-lt (slice_index xs i) (2 ^ (8 * n)) (big_from (suc i) n xs) 256 top rest in
    rw (pow256 n) (omega (arith, whole, less))

-- two numbers with the same low bits have the same fields there
pub low_part : (a b m j k : ℕ) → j + k ≤ m → a % 2 ^ m ≡ b % 2 ^ m → a / 2 ^ k % 2 ^ j ≡ b / 2 ^ k % 2 ^ j
low_part a b m j k h same =
    let whole : (m - (j + k)) + (j + k) ≡ m = omega arith in
    let shorter = λ (x : ℕ). ap (λ w. x % 2 ^ w % 2 ^ (j + k)) (sym whole) ∙ mod-mod-pow x (m - (j + k)) (j + k) in
    let low : a % 2 ^ (j + k) ≡ b % 2 ^ (j + k) = sym (shorter a) ∙ ap (λ x. x % 2 ^ (j + k)) same ∙ shorter b in
    sym (field_of a j k) ∙ ap (λ x. x / 2 ^ k) low ∙ field_of b j k

pub little_byte : (n i k : ℕ) (xs : List ℕ) → ((j : ℕ) → slice_index xs j < 256) → k < n
    → little_from i n xs / 2 ^ (8 * k) % 256 ≡ slice_index xs (i + k)
little_byte zero i k xs small h = absurd (omega arith)
little_byte (suc n) i zero xs small h =
    let top = small i in
    let low : (slice_index xs i + 256 * little_from (suc i) n xs) / 1 % 256 ≡ slice_index xs i = omega (arith, top) in
    low ∙ ap (slice_index xs) (sym (add-zero i))
little_byte (suc n) i (suc k) xs small h =
    let x = slice_index xs i in
    let r = little_from (suc i) n xs in
    let top = small i in
    let less : k < n = omega arith in
    let rest = little_byte n (suc i) k xs small less in
    let further : 8 * suc k ≡ 8 + 8 * k = omega arith in
    let after : (x + 256 * r) / 2 ^ 8 ≡ r = omega (arith, top) in
    let place : suc i + k ≡ i + suc k = omega arith in
    ap (λ m. (x + 256 * r) / 2 ^ m % 256) further
    ∙ ap (λ m. m % 256) (sym (shr-shr (x + 256 * r) 8 (8 * k)) ∙ ap (λ m. m / 2 ^ (8 * k)) after)
    ∙ rest ∙ ap (slice_index xs) place

big_top : (n x r : ℕ) → x < 256 → r < 2 ^ (8 * n) → (x * 256 ^ n + r) / 2 ^ (8 * n) % 256 ≡ x
big_top n x r top low = rw (pow256 n) (ap (λ m. m % 256) (shr_high x (8 * n) r low) ∙ omega (arith, top))

big_low : (n x r : ℕ) → r < 2 ^ (8 * n) → (x * 256 ^ n + r) % 2 ^ (8 * n) ≡ r % 2 ^ (8 * n)
big_low n x r low = rw (pow256 n) (mod_low x (8 * n) r low ∙ sym (mod-eq_of_lt low))

pub big_byte : (n i k : ℕ) (xs : List ℕ) → ((j : ℕ) → slice_index xs j < 256) → k < n
    → big_from i n xs / 2 ^ (8 * k) % 256 ≡ slice_index xs (i + (n - 1 - k))
big_byte zero i k xs small h = absurd (omega arith)
big_byte (suc n) i k xs small h =
    let x = slice_index xs i in
    let r = big_from (suc i) n xs in
    let low = big_from-lt n (suc i) xs small in
    elim (cases_eq k n) [
      | inl same ↦
          (let place : i ≡ i + (suc n - 1 - k) = omega arith in
          ap (λ m. (x * 256 ^ n + r) / 2 ^ (8 * m) % 256) same ∙ big_top n x r (small i) low
          ∙ ap (slice_index xs) place)
      | inr other ↦
          (let less : k < n = omega (arith, other) in
          let within : 8 + 8 * k ≤ 8 * n = omega arith in
          let place : suc i + (n - 1 - k) ≡ i + (suc n - 1 - k) = omega arith in
          low_part (x * 256 ^ n + r) r (8 * n) 8 (8 * k) within (big_low n x r low)
          ∙ big_byte n (suc i) k xs small less ∙ ap (slice_index xs) place)
    ]

pub byte_low : (register : Register) (bytes : List ℕ) (place : ℕ) → ((j : ℕ) → slice_index bytes j < 256)
    → place < length bytes → is_low_first register ≡ true
    → slice_index bytes place ≡ number_of register bytes / 2 ^ (8 * place) % 256
unfolding number_of
byte_low register bytes place small h low =
    rw low (sym (little_byte (length bytes) 0 place bytes small h ∙ ap (slice_index bytes) (omega arith)))

pub byte_high : (register : Register) (bytes : List ℕ) (place : ℕ) → ((j : ℕ) → slice_index bytes j < 256)
    → place < length bytes → is_low_first register ≡ false
    → slice_index bytes (length bytes - 1 - place) ≡ number_of register bytes / 2 ^ (8 * place) % 256
unfolding number_of
byte_high register bytes place small h high =
    rw high (sym (big_byte (length bytes) 0 place bytes small h ∙ ap (slice_index bytes) (omega arith)))

-- a bit of a byte
pub bit_of_byte : (n place : ℕ) → n / 2 ^ (8 * (place / 8)) % 256 / 2 ^ (place % 8) % 2 ≡ n / 2 ^ place % 2
bit_of_byte n place =
    let m = n / 2 ^ (8 * (place / 8)) in
    let inside : 1 + place % 8 ≤ 8 = omega arith in
    let whole : 8 * (place / 8) + place % 8 ≡ place = omega arith in
    low_part (m % 256) m 8 1 (place % 8) inside (mod-mod-pow m 0 8)
    ∙ ap (λ x. x % 2) (shr-shr n (8 * (place / 8)) (place % 8) ∙ ap (λ w. n / 2 ^ w) whole)

-- one bit more after those that are read
pub bits_step : (n high count : ℕ) → count ≤ high
    → (n / 2 ^ (high + 1 - count) % 2 ^ count) * 2 + n / 2 ^ (high - count) % 2
    ≡ n / 2 ^ (high - count) % 2 ^ (count + 1)
bits_step n high count h =
    let next : high - count + 1 ≡ high + 1 - count = omega arith in
    ap (λ x. (x % 2 ^ count) * 2 + n / 2 ^ (high - count) % 2)
    (ap (λ w. n / 2 ^ w) (sym next) ∙ sym (shr-shr n (high - count) 1))
    ∙ sym (mod-pow-add (n / 2 ^ (high - count)) count 1)

-- the bits are 0 where those below and the next one are
pub zero_step : (n low count : ℕ) → (n / 2 ^ low % 2 ^ (count + 1) ≡ 0)
    ↔ ((n / 2 ^ low % 2 ^ count ≡ 0) × (n / 2 ^ (low + count) % 2 ≡ 0))
zero_step n low count =
    let m = n / 2 ^ low in
    let more : m % 2 ^ (count + 1) ≡ (m / 2 ^ count % 2) * 2 ^ count + m % 2 ^ count =
    ap (λ w. m % 2 ^ w) (add_comm count 1) ∙ mod-pow-add m 1 count in
    let next : n / 2 ^ (low + count) % 2 ≡ m / 2 ^ count % 2 = ap (λ x. x % 2) (sym (shr-shr n low count)) in
    let some = pow_pos count in
    let bit = mod_below (m / 2 ^ count) 2 (omega arith) in
    (λ z. grind (arith, more, next, some, bit), λ z. grind (arith, more, next))

byte_is : (k v : ℕ) → byte_at k v ≡ v / 2 ^ (8 * k) % 256
byte_is zero v = let same : v % 256 ≡ v / 1 % 256 = omega arith in same
byte_is (suc k) v = ap (λ w. v / w % 256) (pow256 (suc k))

-- a byte of a field is the field of its eight bits
pub byte_whole : (n high low k : ℕ) → low + 8 * k + 7 ≤ high
    → field (low + 8 * k + 7) (low + 8 * k) n ≡ byte_at k (field high low n)
byte_whole n high low k h =
    let m = n / 2 ^ low in
    let width : low + 8 * k + 7 - (low + 8 * k) + 1 ≡ 8 = omega arith in
    let inside : 8 + 8 * k ≤ high - low + 1 = omega arith in
    ap (λ w. n / 2 ^ (low + 8 * k) % 2 ^ w) width
    ∙ ap (λ x. x % 256) (sym (shr-shr n low (8 * k)))
    ∙ sym (low_part (m % 2 ^ (high - low + 1)) m (high - low + 1) 8 (8 * k) inside
    (mod-eq_of_lt (mod_below m (2 ^ (high - low + 1)) (pow_pos (high - low + 1)))))
    ∙ sym (byte_is k (field high low n))

-- the highest byte of a field has the bits that are left
pub byte_part : (n high low k : ℕ) → low + 8 * k ≤ high → high < low + 8 * k + 7
    → field high (low + 8 * k) n ≡ byte_at k (field high low n)
byte_part n high low k least most =
    let m = n / 2 ^ low in
    let j = high - (low + 8 * k) + 1 in
    let whole : j + 8 * k ≡ high - low + 1 = omega arith in
    let bound : 2 ^ j ≤ 2 ^ 8 = pow-le-pow_right {n = 2} (omega arith) {i = j} {j = 8} (omega arith) in
    let less = mod_below (m / 2 ^ (8 * k)) (2 ^ j) (pow_pos j) in
    let few : m / 2 ^ (8 * k) % 2 ^ j < 256 = omega arith in
    ap (λ x. x % 2 ^ j) (sym (shr-shr n low (8 * k)))
    ∙ sym (mod-eq_of_lt few)
    ∙ ap (λ x. x % 256) (sym (field_of m j (8 * k)) ∙ ap (λ w. m % 2 ^ w / 2 ^ (8 * k)) whole)
    ∙ sym (byte_is k (field high low n))

pub byte_min : (n high low k : ℕ) → low + 8 * k ≤ high
    → field (min high (low + 8 * k + 7)) (low + 8 * k) n ≡ byte_at k (field high low n)
byte_min n high low k h =
    elim (cases_lt high (low + 8 * k + 7)) [
      | inl less ↦
          (let top : min high (low + 8 * k + 7) ≡ high = omega (arith, less) in
          ap (λ t. field t (low + 8 * k) n) top ∙ byte_part n high low k h less)
      | inr more ↦
          (let top : min high (low + 8 * k + 7) ≡ low + 8 * k + 7 = omega (arith, more) in
          ap (λ t. field t (low + 8 * k) n) top ∙ byte_whole n high low k more)
    ]

-- the digits of a number's bytes, the next one first
pub digits_next : (k v b : ℕ) → b ≡ byte_at k v
    → hex_text (bytes_high_first (suc k) v) ≡ hex_text (b ∷ []) ++ hex_text (bytes_high_first k v)
digits_next k v b same = ap (λ x. hex_text (x ∷ []) ++ hex_text (bytes_high_first k v)) (sym same)

-- how many bytes a field's digits stand for
pub digits_whole : (high low v : ℕ) → low ≤ high
    → digits_text (high + 1 - low) v ≡ hex_text (bytes_high_first ((high - low) / 8 + 1) v)
unfolding digits_text
digits_whole high low v h =
    let same : (high + 1 - low + 7) / 8 ≡ (high - low) / 8 + 1 = omega arith in
    ap (λ k. hex_text (bytes_high_first k v)) same
