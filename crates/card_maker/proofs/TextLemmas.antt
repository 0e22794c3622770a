-- Numbers and bytes as they are printed are read again, and texts are cut where a byte stands.
use Rattle.std.proofs.Common.{◌≡◌, ℕ, zero, suc, ◌+◌, ◌*◌, ◌/◌, ◌%◌, ◌^◌, ◌<◌, ◌≤◌, List, [], ◌∷◌, ◌++◌, length, Some, Bool, true, false}
use Rattle.std.proofs.Common.{cond, not, ◌&&◌, inl, inr, sym, refl, ap, ◌∙◌, arith}
use Rattle.std.specs.Prelude.{All, ◌==◌, nat_eq, nat_lt, slice_index}
use Rattle.std.specs.Char.{digit_value}
use Rattle.std.specs.Fmt.{decimal}
use Rattle.std.specs.Result.{result_ok}
use Rattle.std.specs.Str.{all_ascii_digits}
use Rattle.std.specs.Str.Parse.{digits_value}
use Rattle.std.proofs.lemmas.Bool.{and_from, and_parts, cases_eq, eqb-true, eq-eqb, lt-ltb, ne_eqb}
use Rattle.std.proofs.lemmas.Fmt.{decimal_nonempty, digits_decimal, digits_value-decimal}
use Rattle.std.proofs.lemmas.List.Elements.{All-cons, All-nil}
use Rattle.std.proofs.lemmas.List.Splits.{slice_split_at, slice_split_none}
use Rattle.std.proofs.lemmas.Str.{digit_value-digit_char}
use Rattle.std.proofs.lemmas.Str.Parse.{tells_all_ascii_digits}
use Rattle.hex.specs.Hex.{IsBytes, decode_sized, encode_lower, encode_with, lower_digits}
use Rattle.hex.proofs.HexLemmas.{decode_of-encode_lower, decode_sized-twice, length-encode_with}
use Rattle.mmc_frame.specs.Flips.{AreBytes}
use Rattle.text_out.specs.Hex.{hex_digit, hex_text}
use Rattle.card_text.specs.Hexadecimal.{bytes_of}
use Rattle.card_text.specs.Numbers.{byte_of, number_of}
use Rattle.card_text.specs.Parts.{parts}
use Rattle.card_text.proofs.NumberLemmas.{decimal_model, guard_yes}

-- ---- numbers and bytes

pub number_of-decimal : (n : ℕ) → n < 2 ^ 64 → number_of (decimal n) ≡ Some n
unfolding number_of
number_of-decimal n h =
    let value : digits_value 10 (decimal n) ≡ n = digits_value-decimal decimal_model n h in
    let small : digits_value 10 (decimal n) < 2 ^ 64 = omega (arith, value, h) in
    let digits = and_from _ _ (lt-ltb _ _ (decimal_nonempty n h)) (digits_decimal decimal_model n h) in
    sym (guard_yes _ _ _ (and_from _ _ digits (lt-ltb _ _ small)) (sym value))

pub byte_of-hex : (b : ℕ) → b < 256 → byte_of (hex_text (b ∷ [])) ≡ Some b
unfolding byte_of
byte_of-hex b h =
    let high : digit_value (hex_digit (b / 16)) ≡ b / 16 = digit_value-digit_char (b / 16) (omega arith) in
    let low : digit_value (hex_digit (b % 16)) ≡ b % 16 = digit_value-digit_char (b % 16) (omega arith) in
    let high_fits : digit_value (hex_digit (b / 16)) < 16 = omega (arith, high) in
    let low_fits : digit_value (hex_digit (b % 16)) < 16 = omega (arith, low) in
    sym (guard_yes _ _ _ (and_from _ _ (lt-ltb _ _ high_fits) (lt-ltb _ _ low_fits)) (omega (arith, high, low)))

-- a test of every number below n
abbrev each_below : ℕ → (ℕ → Bool) → Bool
each_below zero test = true
each_below (suc n) test = test n && each_below n test

same_below : (n : ℕ) (f g : ℕ → ℕ) → each_below n (λ i. nat_eq (f i) (g i)) ≡ true → (i : ℕ) → i < n → f i ≡ g i
same_below zero f g h i l = absurd (omega arith)
same_below (suc n) f g h i l =
    let both = and_parts (nat_eq (f n) (g n)) (each_below n (λ i. nat_eq (f i) (g i))) h in
    elim (cases_eq i n) [
      | inl same ↦ rw same (eqb-true (f n) (g n) both.0)
      | inr other ↦ same_below n f g both.1 i (omega (arith, other))
    ]

-- the two crates' digits are the same
digit_same : (d : ℕ) → d < 16 → hex_digit d ≡ slice_index lower_digits d
digit_same = same_below 16 hex_digit (λ d. slice_index lower_digits d) refl

text_same : (bs : List ℕ) → AreBytes bs → hex_text bs ≡ encode_lower bs
unfolding encode_with
text_same [] h = refl
text_same (b ∷ bs) h =
    let fits : b < 256 = h.0 in
    let high = digit_same (b / 16) (omega arith) in
    let low = digit_same (b % 16) (omega arith) in
    let rest = text_same bs h.1 in
    rw (high, low, rest) refl

pub bytes_below : (bs : List ℕ) → AreBytes bs → IsBytes bs
bytes_below [] h i = omega arith
bytes_below (b ∷ bs) h zero = h.0
bytes_below (b ∷ bs) h (suc i) = bytes_below bs h.1 i

-- a register is read again
pub bytes_of-hex : (count : ℕ) (bs : List ℕ) → length bs ≡ count → AreBytes bs → bytes_of count (hex_text bs) ≡ Some bs
unfolding bytes_of
bytes_of-hex count bs long bytes =
    let twice : length (encode_lower bs) ≡ 2 * count = length-encode_with lower_digits bs ∙ ap (λ n. 2 * n) long in
    ap (λ text. result_ok (decode_sized text count)) (text_same bs bytes)
    ∙ ap result_ok (decode_sized-twice (encode_lower bs) count twice ∙ decode_of-encode_lower bs (bytes_below bs bytes))

-- ---- cuts

-- no byte of the list is c
abbrev pub is_without : ℕ → List ℕ → Bool
is_without c [] = true
is_without c (b ∷ bs) = not (b == c) && is_without c bs

other : (b : Bool) → not b ≡ true → b ≡ false
other true h = cc
other false h = refl

not_same : (b : Bool) → b ≡ false → not b ≡ true
not_same true h = cc
not_same false h = refl

each_other : (c : ℕ) (bs : List ℕ) → is_without c bs ≡ true → All (λ b. (b == c) ≡ false) bs
each_other c [] h = All-nil (λ b. (b == c) ≡ false)
each_other c (b ∷ bs) h =
    let both = and_parts (not (b == c)) (is_without c bs) h in
    All-cons (λ b. (b == c) ≡ false) b bs (other (b == c) both.0) (each_other c bs both.1)

pub parts_none : (c : ℕ) (bs : List ℕ) → is_without c bs ≡ true → parts c bs ≡ bs ∷ []
unfolding parts
parts_none c bs h = slice_split_none (λ b. b == c) bs (each_other c bs h)

pub parts_at : (c : ℕ) (bs others : List ℕ) → is_without c bs ≡ true → parts c (bs ++ c ∷ others) ≡ bs ∷ parts c others
unfolding parts
parts_at c bs others h = slice_split_at (λ b. b == c) bs c others (each_other c bs h) (eq-eqb c c refl)

pub without_append : (c : ℕ) (bs others : List ℕ) → is_without c bs ≡ true → is_without c others ≡ true
    → is_without c (bs ++ others) ≡ true
without_append c [] others h k = k
without_append c (b ∷ bs) others h k =
    let both = and_parts (not (b == c)) (is_without c bs) h in
    and_from (not (b == c)) (is_without c (bs ++ others)) both.0 (without_append c bs others both.1 k)

without_cons : (c b : ℕ) (bs : List ℕ) → (b ≡ c → ⊥) → is_without c bs ≡ true → is_without c (b ∷ bs) ≡ true
without_cons c b bs ne h = and_from (not (b == c)) (is_without c bs) (not_same (b == c) (ne_eqb b c ne)) h

without_digits : (c : ℕ) (ds : List ℕ) → c < 48 → all_ascii_digits ds ≡ true → is_without c ds ≡ true
without_digits c [] small h = refl
without_digits c (d ∷ ds) small h =
    let p = tells_all_ascii_digits.parts d ds h in
    without_cons c d ds (λ e. absurd (omega (arith, p.0, e))) (without_digits c ds small p.1)

pub without_decimal : (c n : ℕ) → c < 48 → n < 2 ^ 64 → is_without c (decimal n) ≡ true
without_decimal c n small h = without_digits c (decimal n) small (digits_decimal decimal_model n h)

digit_from_by : (t : Bool) (d : ℕ) → 48 ≤ cond t (48 + d) (87 + d)
digit_from_by true d = omega arith
digit_from_by false d = omega arith

digit_from : (d : ℕ) → 48 ≤ hex_digit d
digit_from d = digit_from_by (nat_lt d 10) d

pub without_hex : (c : ℕ) (bs : List ℕ) → c < 48 → is_without c (hex_text bs) ≡ true
without_hex c [] small = refl
without_hex c (b ∷ bs) small =
    without_cons c (hex_digit (b / 16)) (hex_digit (b % 16) ∷ hex_text bs) (λ e. absurd (omega (arith, digit_from (b / 16), e)))
    (without_cons c (hex_digit (b % 16)) (hex_text bs) (λ e. absurd (omega (arith, digit_from (b % 16), e)))
    (without_hex c bs small))
