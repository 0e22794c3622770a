-- What decimal digits write, read one after the other.
use Rattle.std.proofs.Common.{◌≡◌, ◌<◌, ◌+◌, ◌-◌, ◌*◌, ◌^◌, ℕ, List, get_or, length, take, None, Some, Bool, true, false, cond}
use Rattle.std.proofs.Common.{suc, zero, ◌≢◌, inl, inr, refl, ap, arith, subst, sym, ◌≤◌, ◌⊎◌}
use Rattle.std.proofs.Math.Nat.{eq-or-lt_of_le}
use Rattle.std.specs.Char.{IsNotAsciiDigit}
use Rattle.std.specs.Int.{IsInRange}
use Rattle.std.specs.Str.{all_ascii_digits}
use Rattle.std.specs.Str.Parse.{digits_value}
use Rattle.std.proofs.lemmas.Int.Digits.{digits_value_more}
use Rattle.std.proofs.lemmas.Str.{digit_value_digit}
use Rattle.std.proofs.lemmas.Str.Parse.{IsNumeralModel, digits_value-take-le, numerals_by_value, tells_all_ascii_digits, tells_by_index}
use Rattle.std.proofs.lemmas.Bool.{lt-ltb, ltb-true, and_parts, and_from}
use Rattle.card_text.specs.Numbers.{number_of}

pub guard_no : {A : Type 0} (b : Bool) (x : A) → (b ≡ true → ⊥) → None ≡ cond b (Some x) None
guard_no true x h = absurd (h refl)
guard_no false x h = refl

pub guard_yes : {A : Type 0} (b : Bool) (x y : A) → b ≡ true → y ≡ x → Some y ≡ cond b (Some x) None
guard_yes true x y h e = ap (λ v. Some v) e
guard_yes false x y h e = cc

-- the texts of decimal digits, and what they write
pub decimal_model : IsNumeralModel (λ ds. all_ascii_digits ds ≡ true) (digits_value 10)
decimal_model = numerals_by_value _ tells_all_ascii_digits

-- the same texts, by each of their bytes
by_index : IsNumeralModel (λ ds. (i : ℕ) → i < length ds → IsInRange 48 57 (get_or ds i 0)) (digits_value 10)
by_index = numerals_by_value _ tells_by_index

pub no_digits : (ds : List ℕ) → length ds ≡ 0 → None ≡ number_of ds
unfolding number_of
no_digits ds none = guard_no _ _ (λ t.
    let k = ltb-true 0 (length ds) (and_parts _ _ (and_parts _ _ t).0).0 in absurd (omega (arith, k, none)))

pub no_digit : (ds : List ℕ) (i : ℕ) → i < length ds → IsNotAsciiDigit (get_or ds i 0) → None ≡ number_of ds
unfolding number_of
no_digit ds i lt other = guard_no _ _ (λ t.
    let k = by_index.from ds (decimal_model.to ds (and_parts _ _ (and_parts _ _ t).0).1) i lt in absurd (omega (arith, k, other)))

pub digits_more : (ds : List ℕ) (i : ℕ) → ((k : ℕ) → k < i → IsInRange 48 57 (get_or ds k 0))
    → IsInRange 48 57 (get_or ds i 0) → (k : ℕ) → k < i + 1 → IsInRange 48 57 (get_or ds k 0)
digits_more ds i before digit k lt = case (eq-or-lt_of_le (let le : k ≤ i = omega (arith, lt) in le))
  where
    case : (k ≡ i) ⊎ (k < i) → IsInRange 48 57 (get_or ds k 0)
    case (inl same) = subst (λ j. IsInRange 48 57 (get_or ds j 0)) (sym same) digit
    case (inr less) = before k less

-- one digit more
pub digit_more : (ds : List ℕ) (i number : ℕ) → i < length ds → IsInRange 48 57 (get_or ds i 0)
    → number ≡ digits_value 10 (take i ds) → number * 10 + (get_or ds i 0 - 48) ≡ digits_value 10 (take (i + 1) ds)
digit_more ds i number lt digit is =
    let e = digits_value_more 10 ds i lt in
    let d = digit_value_digit (get_or ds i 0) digit in
    omega (arith, e, d, is, digit)

-- it makes the number too large
pub too_large : (ds : List ℕ) (i number : ℕ) → number ≡ digits_value 10 (take (i + 1) ds) → (number < 2 ^ 64 → ⊥)
    → None ≡ number_of ds
unfolding number_of
too_large ds i number is large = guard_no _ _ (λ t.
    let small = ltb-true (digits_value 10 ds) (2 ^ 64) (and_parts _ _ t).1 in
    let le = digits_value-take-le 10 ds (i + 1) (omega arith) in
    large (omega (arith, small, le, is)))

some_digits : (n : ℕ) → n ≢ 0 → 0 < n
some_digits zero some = absurd (some refl)
some_digits (suc n) some = omega arith

pub read_whole : (ds : List ℕ) (number : ℕ) → length ds ≢ 0 → ((i : ℕ) → i < length ds → IsInRange 48 57 (get_or ds i 0))
    → number < 2 ^ 64 → number ≡ digits_value 10 ds → Some number ≡ number_of ds
unfolding number_of
read_whole ds number some digits small is =
    let all = decimal_model.from ds (by_index.to ds digits) in
    let fits : digits_value 10 ds < 2 ^ 64 = omega (arith, small, is) in
    guard_yes _ _ _ (and_from _ _ (and_from _ _ (lt-ltb _ _ (some_digits (length ds) some)) all) (lt-ltb _ _ fits)) is
